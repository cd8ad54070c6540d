-- What is asked of a network and of the edits that are chosen, so that the settings after the edits
-- have a network.
use Rattle.std.specs.Prelude.{◌≡◌, ℕ, ◌+◌, ◌^◌, ◌<◌, ◌≤◌, IsFalse, IsTrue, Some, List, [], Contains}
use Rattle.std.specs.Prelude.{length, slice_get}
use Rattle.std.specs.List.{filter_map}
use Rattle.arc_base.specs.declared.limits.TheConstants.{ENTRY_LIMIT}
use Rattle.net_model.specs.declared.rows.FaceRow.{FaceRow}
use Rattle.net_model.specs.declared.rows.Network.{Network}
use Rattle.net_model.specs.declared.rows.SessionRow.{SessionRow}
use Rattle.net_model.specs.Forwarding.{HasHost}
use Rattle.ios_words.specs.Names.{is_face_name}
use Rattle.ios_config.specs.declared.settings.Config.{Config}
use Rattle.ios_config.specs.declared.settings.ListText.{ListText}
use Rattle.edit_list.specs.declared.edit_kinds.Edit.{Edit}
use Rattle.edit_list.specs.declared.edit_kinds.Edit.TheVariants as edits
use Rattle.settings_edit_laws.specs.Additions.{prefix_for, class_for}
use Rattle.line_patcher.specs.Additions.{process_commands}
use Rattle.edit_list.specs.NewLists.{named_lists}

-- The edit makes a new list only where none is bound, and an entry of a packet list is for a class
-- whose sources lie in a host network.
abbrev pub IsFitting : Network → Edit → Type 0
IsFitting net (edits.Session face) = Unit {0}
IsFitting net (edits.RouteList list prefix) = Unit {0}
IsFitting net (edits.RouteNew face prefix) =
    (session : SessionRow) → Contains net.sessions session → session.face ≡ face →
    IsFalse session.bound
IsFitting net (edits.PacketList list class) = HasHost net class.from
IsFitting net (edits.PacketNew face class) =
    HasHost net class.from ×
    ((row : FaceRow) → slice_get net.faces face.0 ≡ Some row → IsFalse row.bound_in)

-- this holds of each of the edits
abbrev pub AreFitting : Network → List Edit → Type 0
AreFitting net chosen = (edit : Edit) → Contains chosen edit → IsFitting net edit

-- each list of the files has room for all the edits, and so has a new one
pub record HasRoom (chosen : List Edit) (configs : List Config) : Type 0 where
  pub old : (config : Config) → Contains configs config →
      (list : ListText) → Contains config.lists list →
      length list.entries + length chosen ≤ ENTRY_LIMIT
  pub new : length chosen < ENTRY_LIMIT

-- the edits add nothing to the file of the router
pub record IsUntouched (net : Network) (chosen : List Edit) (router : ℕ) : Type 0 where
  pub lines : process_commands net chosen router ≡ []
  pub lists : named_lists net chosen router ≡ []
  pub prefixes : (name : List ℕ) → filter_map (prefix_for net router name) chosen ≡ []
  pub classes : (name : List ℕ) → filter_map (class_for net router name) chosen ≡ []

-- the names of the network's interfaces and the addresses of its neighbours can be written in lines
-- of router files
pub record IsWritable (net : Network) : Type 0 where
  pub faces : (place : ℕ) (row : FaceRow) → slice_get net.faces place ≡ Some row →
      IsTrue (is_face_name row.name)
  pub peers : (session : SessionRow) → Contains net.sessions session → session.peer < 2 ^ 32
