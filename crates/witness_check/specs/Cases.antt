-- What a witness is judged against, and how the packets of a class fare at the lists of the
-- network.
use Rattle.std.specs.Prelude.{◌≡◌, ◌↔◌, ℕ, Bool, Option}
use Rattle.arc_base.specs.declared.place.ListId.{ListId}
use Rattle.arc_base.specs.declared.prefix.Prefix.{Prefix}
use Rattle.net_model.specs.declared.lists.Packet.{Packet}
use Rattle.net_model.specs.declared.policies.Class.{Class}
use Rattle.net_model.specs.declared.rows.Network.{Network}
use Rattle.net_model.specs.Lists.{permits}
use Rattle.net_model.specs.Packets.{IsOfClass}
use Rattle.net_model.specs.Routing.{Arc, IsArc, IsRouted}
use Rattle.net_model.specs.Tables.{IsToldOf}
use Rattle.net_model.specs.Forwarding.{Ends, ListPermits, Enters, Leaves}
use Rattle.witness_check.specs.declared.answers.Asked.{Asked}
use Rattle.witness_check.specs.declared.arcs.ArcRows.{ArcRows}
use Rattle.witness_check.specs.declared.cases.Case.{Case}

-- the ends of the case
abbrev pub ends_in : Case → Ends
ends_in case = record { source = case.source.now; target = case.target.now; to = case.to }

-- what the case says of its network is so
abbrev pub CaseHolds : Case → Type 0
CaseHolds case = IsToldOf case.net.now case.to case.told

-- the packets that are asked for are those that the list with this place permits
abbrev pub AsksPermitted : Network → Option ListId → Asked → Type 0
AsksPermitted net list asked =
    (p : Packet) → ListPermits net list p ↔ (permits asked.entries.now p ≡ asked.answer)

-- the list with this place permits each packet of the class
abbrev pub EachPermitted : Network → Option ListId → Class → Type 0
EachPermitted net list class = (p : Packet) → IsOfClass class p → ListPermits net list p

-- the arc whose rows these are
abbrev pub arc_of : ArcRows → Arc
arc_of shown = record {
  link = shown.link.0;
  from_a = shown.from_a;
  row = shown.row;
  tail = shown.tail.now;
  head = shown.head.now;
}

-- the arc is one of the network and routed
abbrev pub IsRoutedArc : Network → Prefix → Arc → Type 0
IsRoutedArc net to arc = IsArc net arc × IsRouted net to arc

-- it is the arc of this link in this direction
abbrev pub IsOver : ℕ → Bool → Arc → Type 0
IsOver link from_a arc = (arc.link ≡ link) × (arc.from_a ≡ from_a)

-- what is asked holds of the routed arc of this link in this direction, if there is one
abbrev pub EachOver : Network → Prefix → ℕ → Bool → (Arc → Type 0) → Type 0
EachOver net to link from_a P =
    (arc : Arc) → IsRoutedArc net to arc → IsOver link from_a arc → P arc

-- what is asked holds of each routed arc
abbrev pub EachRouted : Network → Prefix → (Arc → Type 0) → Type 0
EachRouted net to P = (arc : Arc) → IsRoutedArc net to arc → P arc

-- the test gives this answer for the rows of the arc
abbrev pub TestGives : (ArcRows → Bool → Type 0) → Bool → Arc → Type 0
TestGives test answer arc = (rows : ArcRows) × (arc_of rows ≡ arc) × test rows answer

-- each packet of the class enters, and leaves once it is at the target router
abbrev pub EachEntersAndLeaves : Network → Ends → Class → Type 0
EachEntersAndLeaves net ends class =
    ((p : Packet) → IsOfClass class p → Enters net ends p) ×
    ((p : Packet) → IsOfClass class p → Leaves net ends p)
