-- What the packet lists of a network answer to a packet, kept in a list of its own.
use Rattle.std.specs.Prelude.{Bool, IsTrue, List, map, Option, IfSome, IsSomeAnd, slice_get}
use Rattle.arc_base.specs.declared.place.ListId.{ListId}
use Rattle.net_model.specs.declared.lists.Packet.{Packet}
use Rattle.net_model.specs.declared.rows.FaceRow.{FaceRow}
use Rattle.net_model.specs.declared.rows.Network.{Network}
use Rattle.net_model.specs.Lists.{permits}
use Rattle.net_model.specs.Routing.{Arc}

-- what each packet list answers to the packet
abbrev pub answers_to : Network → Packet → List Bool
answers_to net p = map (λ l. permits l.entries p) net.packet_lists

-- the list with this place answers yes, or there is none
abbrev pub Allows : List Bool → Option ListId → Type 0
Allows answers list = IfSome list (λ id. IsSomeAnd (slice_get answers id.0) IsTrue)

-- the list outbound at the tail answers yes, and so does that inbound at the head
abbrev pub EndsAllow : List Bool → FaceRow → FaceRow → Type 0
EndsAllow answers tail head = Allows answers tail.list_out × Allows answers head.list_in

-- the lists at both ends of the arc answer yes
abbrev pub ArcAllows : List Bool → Arc → Type 0
ArcAllows answers arc = EndsAllow answers arc.tail arc.head
