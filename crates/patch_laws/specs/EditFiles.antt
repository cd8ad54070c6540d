-- A file of a network that is edited: what all parts of the law on patched files ask of it.
use Rattle.std.specs.Prelude.{◌≡◌, ◌≢◌, ℕ, ◌+◌, ◌≤◌, ◌<◌, ◌⊎◌, true, Some, List, [], ◌∷◌, length}
use Rattle.std.specs.Prelude.{codes, slice_get, Contains, IsTrue}
use Rattle.std.specs.List.{AllByRecursion}
use Rattle.arc_base.specs.declared.limits.TheConstants.{ENTRY_LIMIT}
use Rattle.arc_base.specs.declared.place.Face.{Face}
use Rattle.arc_base.specs.PrefixText.{number_of}
use Rattle.net_model.specs.declared.lists.PacketList.{PacketList}
use Rattle.net_model.specs.declared.lists.RouteList.{RouteList}
use Rattle.net_model.specs.declared.policies.Class.{Class}
use Rattle.net_model.specs.declared.rows.FaceRow.{FaceRow}
use Rattle.net_model.specs.declared.rows.Network.{Network}
use Rattle.net_model.specs.Validity.{FitsProtocol, IsValid}
use Rattle.ios_lines.specs.declared.line.Lines.{Lines}
use Rattle.ios_lines.specs.ChangeLaws.{CanBeCut}
use Rattle.ios_lines.specs.Lines.{AreLinesOf}
use Rattle.ios_lines.specs.Texts.{text_lines}
use Rattle.arc_base.specs.NameForms.{is_name}
use Rattle.ios_words.specs.Numbers.{list_kind}
use Rattle.ios_config.specs.declared.commands.FileCommand.{FileCommand}
use Rattle.ios_config.specs.declared.settings.FaceText.{FaceText}
use Rattle.ios_config.specs.declared.settings.ListForm.TheVariants as forms
use Rattle.ios_config.specs.declared.settings.ListKind.TheVariants.{Extended, Prefix}
use Rattle.ios_config.specs.declared.settings.ListText.{ListText}
use Rattle.ios_config.specs.declared.settings.ProcessText.{ProcessText}
use Rattle.ios_config.specs.Groups as groups
use Rattle.ios_config.specs.LineLists.{AreCommandsIn}
use Rattle.ios_config.specs.Rising.{NumbersRise}
use Rattle.ios_config.specs.Texts.{config_of}
use Rattle.ios_config.specs.Twice.{StandOnce}
use Rattle.net_build.specs.declared.built.Places.{Places}
use Rattle.net_rules.specs.Lists.{packet_entries, route_entries}
use Rattle.net_build.specs.Places.{face_place, list_place, places_of}
use Rattle.net_rules.specs.Routers.{protocol_of_kind}
use Rattle.edit_list.specs.declared.edit_kinds.Edit.{Edit}
use Rattle.edit_list.specs.declared.list_kinds.NewList.{NewList}
use Rattle.edit_list.specs.declared.list_kinds.NewList.TheVariants.{Packet}
use Rattle.edit_list.specs.Changes.{list_prefixes, list_classes}
use Rattle.edit_list.specs.Writable.{is_writable}
use Rattle.line_patcher.specs.EntryLines.{packet_place, route_place}
use Rattle.line_patcher.specs.NewListLines.{face_places}
use Rattle.edit_list.specs.NewLists.{named_lists}
use Rattle.settings_edit_laws.specs.Premises.{IsWritable}
use Rattle.patch_laws.specs.NewListSites.{IsNewName, AreDifferent}

-- The lines of lists that are written as lines are top lines, prefix lists are not named as the
-- word of an inert row, and extended lists that are written as lines have numbers of extended
-- lists.
pub record HaveListLines (cs : List FileCommand) : Type 0 where
  pub tops : (c : FileCommand) → Contains cs c → (name : List ℕ) →
      (groups.part_of c ≡ groups.Lines name) ⊎ (groups.part_of c ≡ groups.PrefixLines name) →
      c.block ≡ 0
  pub words : (list : ListText) → Contains (config_of cs).lists list →
      list.form ≡ forms.PrefixLines → list.name ≢ codes "sequence-number"
  pub numbers : (list : ListText) → Contains (config_of cs).lists list → list.form ≡ forms.Lines →
      list.kind ≡ Extended → list_kind (number_of list.name) ≡ Some true

-- the file has the packet list of this row at its place: an extended one, as a block or as lines of
-- its number
pub record HasPacketList (cs : List FileCommand) (row : PacketList) : Type 0 where
  pub list : ListText
  pub among : Contains (config_of cs).lists list
  pub place : packet_place (places_of (config_of cs)) row.name ≡ Some (list_place list)
  pub name : list.name ≡ row.name
  pub kind : list.kind ≡ Extended
  pub form : (list.form ≡ forms.Block) ⊎
      ((list.form ≡ forms.Lines) × (list_kind (number_of list.name) ≡ Some true))
  pub entries : row.entries ≡ packet_entries list
  pub some : list.entries ≢ []

-- the file has the route list of this row at its place
pub record HasRouteList (cs : List FileCommand) (row : RouteList) : Type 0 where
  pub list : ListText
  pub among : Contains (config_of cs).lists list
  pub place : route_place (places_of (config_of cs)) row.name ≡ Some (list_place list)
  pub name : list.name ≡ row.name
  pub kind : list.kind ≡ Prefix
  pub form : list.form ≡ forms.PrefixLines
  pub is_name : IsTrue (is_name list.name)
  pub other : list.name ≢ codes "sequence-number"
  pub entries : row.entries ≡ route_entries list
  pub some : list.entries ≢ []

-- the file has the interface that is at this place of the network, at the same place of all
-- interfaces
pub record HasFace (net : Network) (places : List Places) (router : ℕ) (cs : List FileCommand)
    (place : ℕ) : Type 0 where
  pub row : FaceRow
  pub at : slice_get net.faces place ≡ Some row
  pub own : row.router.0 ≡ router
  pub face : FaceText
  pub among : Contains (config_of cs).faces face
  pub name : face.name ≡ row.name
  pub place_is : slice_get (face_places places) place ≡ Some (face_place face)

-- The file of the router, with these lines and commands, is one of the network's, and the edits are
-- those of the network: they add entries only to lists that the file has and only for classes that
-- one entry can say, new lists have free names, and there is room for all.
pub record IsEditedFile (net : Network) (places : List Places) (chosen : List Edit) (router : ℕ)
    (text : List ℕ) (lines : Lines) (cs : List FileCommand) : Type 0 where
  pub valid : IsValid net
  pub writable : IsWritable net
  pub fits : FitsProtocol net.protocol net
  pub are : AreLinesOf text lines
  pub cut : CanBeCut text
  pub stand : AreCommandsIn (text_lines text) cs
  pub tops : (c : FileCommand) → Contains cs c → (name : List ℕ) →
      (groups.part_of c ≡ groups.Lines name) ⊎ (groups.part_of c ≡ groups.PrefixLines name) →
      c.block ≡ 0
  pub once : StandOnce cs
  pub rising : NumbersRise (config_of cs).lists
  pub process : ProcessText
  pub one : (config_of cs).process ≡ process ∷ []
  pub runs : protocol_of_kind process.kind ≡ net.protocol
  pub names : AllByRecursion (IsNewName chosen) (named_lists net chosen router)
  pub different : AreDifferent (named_lists net chosen router)
  pub free : (named : NewList × List ℕ) → Contains (named_lists net chosen router) named →
      (list : ListText) → Contains (config_of cs).lists list → list.name ≢ named.1
  pub packets : (id : ℕ) (row : PacketList) → slice_get net.packet_lists id ≡ Some row →
      row.router.0 ≡ router → list_classes chosen id ≢ [] → HasPacketList cs row
  pub routes : (id : ℕ) (row : RouteList) → slice_get net.route_lists id ≡ Some row →
      row.router.0 ≡ router → list_prefixes chosen id ≢ [] → HasRouteList cs row
  pub classes : (id : ℕ) (class : Class) → Contains (list_classes chosen id) class →
      IsTrue (is_writable class.service)
  pub faces : (face : Face) (name : List ℕ) →
      Contains (named_lists net chosen router) (Packet face, name) →
      HasFace net places router cs face.0
  pub room : (list : ListText) → Contains (config_of cs).lists list →
      length list.entries + length chosen ≤ ENTRY_LIMIT
  pub few : length chosen < ENTRY_LIMIT
