-- The conditions of a network: its own answers on sessions, routes and packets, each turned by the
-- edit that acts on it.
use Rattle.std.specs.Prelude.{Bool, true, false, Option, Some, None, List, slice_get, if◌then◌else◌}
use Rattle.std.specs.Option.{option_map_or}
use Rattle.arc_base.specs.declared.place.Face.{Face}
use Rattle.arc_base.specs.declared.place.ListId.{ListId}
use Rattle.arc_base.specs.declared.prefix.Prefix.{Prefix}
use Rattle.net_model.specs.declared.policies.Class.{Class}
use Rattle.net_model.specs.declared.rows.FaceRow.{FaceRow}
use Rattle.net_model.specs.declared.rows.SessionRow.{SessionRow}
use Rattle.net_model.specs.declared.rows.Network.{Network}
use Rattle.net_model.specs.Decided.{is_open}
use Rattle.net_model.specs.Lists.{permits, route_permits}
use Rattle.net_model.specs.Packets.{first_packet}
use Rattle.net_model.specs.Routing.{session_at}
use Rattle.condition_formula.specs.declared.condition.Condition.{Condition}
use Rattle.condition_formula.specs.declared.condition.Condition.TheVariants.{Always, Never}
use Rattle.condition_formula.specs.declared.condition.ArcLists.{ArcLists}
use Rattle.condition_formula.specs.declared.condition.ClassEnds.{ClassEnds}
use Rattle.edit_list.specs.declared.edit_kinds.Edit.{Edit}
use Rattle.edit_list.specs.declared.edit_kinds.Edit.TheVariants as edits
use Rattle.policy_encode.specs.Turning.{turned}

-- when the interface at this place talks to its neighbour
abbrev pub session_condition : Network → List Edit → Face → FaceRow → Condition
session_condition net list face row =
    turned list (edits.Session face) (is_open (session_at net face) row)

-- whether the route list with this place permits the prefix
abbrev pub route_answer : Network → ListId → Prefix → Bool
route_answer net id to =
    option_map_or (λ l. route_permits l.entries to) (slice_get net.route_lists id.0) false

-- when the session of this interface, at which this route list is bound, takes the prefix: without
-- a list it does, until a new one denies it
abbrev pub filter_condition : Network → List Edit → Prefix → Face → Option ListId → Condition
filter_condition net list to face None = turned list (edits.RouteNew face to) true
filter_condition net list to face (Some id) =
    turned list (edits.RouteList id to) (route_answer net id to)

-- when the interface, of which this is the session, takes a route for the prefix; without a session
-- always
abbrev pub route_condition : Network → List Edit → Prefix → Face → Option SessionRow → Condition
route_condition net list to face None = Always
route_condition net list to face (Some s) = filter_condition net list to face s.filter

-- whether the packet list with this place permits the first packet of the class
abbrev pub packet_answer : Network → ListId → Class → Bool
packet_answer net id class =
    option_map_or (λ l. permits l.entries (first_packet class))
    (slice_get net.packet_lists id.0) false

-- when the packet list permits the class, wherever it is bound
abbrev pub list_condition : Network → List Edit → Class → ListId → Condition
list_condition net list class id =
    turned list (edits.PacketList id class) (packet_answer net id class)

-- when the interface at this place, with this list inbound, takes the class in: without a list it
-- does, until a new one denies it
abbrev pub inbound_condition : Network → List Edit → Class → Face → Option ListId → Condition
inbound_condition net list class face None = turned list (edits.PacketNew face class) true
inbound_condition net list class face (Some id) = list_condition net list class id

-- when an interface with this list outbound lets the class out; without a list always
abbrev pub outbound_condition : Network → List Edit → Class → Option ListId → Condition
outbound_condition net list class None = Always
outbound_condition net list class (Some id) = list_condition net list class id

-- the two conditions of an arc: its tail lets the class out, and its head takes it in
abbrev pub arc_lists : Network → List Edit → FaceRow → Face → FaceRow → Class → ArcLists
arc_lists net list tail head head_row class = record {
  outbound = outbound_condition net list class tail.list_out;
  inbound = inbound_condition net list class head head_row.list_in;
}

-- when the packets of the class enter at the source and leave at the target: never where the
-- interface is down
abbrev pub class_ends : Network → List Edit → Face → FaceRow → FaceRow → Class → ClassEnds
class_ends net list source source_row target class = record {
  enter =
      (if source_row.up then inbound_condition net list class source source_row.list_in else Never);
  leave = (if target.up then outbound_condition net list class target.list_out else Never);
}
