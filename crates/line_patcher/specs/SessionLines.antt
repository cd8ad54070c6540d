-- What edits add to the process of a router to turn sessions.
use Rattle.std.specs.Prelude.{ℕ, not, Option, Some, List, option_map, option_and_then, slice_get}
use Rattle.std.specs.List.{filter_map}
use Rattle.net_model.specs.declared.rows.Protocol.{Protocol}
use Rattle.net_model.specs.declared.rows.Protocol.TheVariants.{Ospf, Bgp}
use Rattle.net_model.specs.declared.rows.FaceRow.{FaceRow}
use Rattle.net_model.specs.declared.rows.SessionRow.{SessionRow}
use Rattle.net_model.specs.declared.rows.Network.{Network}
use Rattle.net_model.specs.Routing.{session_at}
use Rattle.ios_words.specs.declared.commands.Command.{Command}
use Rattle.ios_words.specs.declared.commands.Command.TheVariants as commands
use Rattle.edit_list.specs.declared.edit_kinds.Edit.{Edit}
use Rattle.edit_list.specs.Changes.{session_change}
use Rattle.arc_base.specs.Numbered.{of_number}

-- the command that turns the session of an interface: under OSPF it makes it passive or active,
-- under eBGP it shuts its neighbour down or up
abbrev pub turning_command : Protocol → FaceRow → Option SessionRow → Option Command
turning_command Ospf row session = Some (commands.Passive (not row.passive) (Some row.name))
turning_command Bgp row session =
    option_map (λ s. commands.NeighborDown s.peer (not s.down)) session

-- the command that turns the session of the interface at this place
abbrev pub session_command : Network → ℕ → Option Command
session_command net face =
    option_and_then
    (λ row. turning_command net.protocol row (session_at net (record { 0 = face })))
    (slice_get net.faces face)

-- the interface whose session the edit turns, with its router
abbrev pub turned_face : Network → Edit → Option (ℕ × ℕ)
turned_face net edit =
    option_and_then (λ face. option_map (λ row. (row.router.0, face)) (slice_get net.faces face))
    (session_change edit)

-- the interfaces of a router whose sessions are turned, in the order of the edits
abbrev pub turned_faces : Network → List Edit → ℕ → List ℕ
turned_faces net chosen router = of_number router (filter_map (turned_face net) chosen)

-- the commands that turn sessions of a router, in the order of the edits
abbrev pub session_commands : Network → List Edit → ℕ → List Command
session_commands net chosen router =
    filter_map (session_command net) (turned_faces net chosen router)
