-- One packet of a class decides for all of them, where each packet list is uniform on the class.
use Rattle.std.proofs.Common.{◌≡◌, ℕ, ◌↔◌, Bool, Option, Some, None, IsTrue, refl, sym, subst}
use Rattle.std.specs.Prelude.{slice_get, IsSomeAnd}
use Rattle.std.proofs.lemmas.Option.{slice_get-map}
use Rattle.std.specs.Option.{option_map}
use Rattle.std.proofs.lemmas.List.Elements.{All-contains}
use Rattle.arc_base.specs.declared.place.ListId.{ListId}
use Rattle.net_model.specs.declared.lists.Packet.{Packet}
use Rattle.net_model.specs.declared.lists.PacketList.{PacketList}
use Rattle.net_model.specs.declared.policies.Class.{Class}
use Rattle.net_model.specs.declared.rows.Network.{Network}
use Rattle.net_model.specs.Lists.{permits}
use Rattle.net_model.specs.Packets.{IsOfClass, first_packet}
use Rattle.net_model.specs.Routing.{Arc}
use Rattle.net_model.specs.Forwarding.{ListPermits, ArcPermits, ArcPermitsEach}
use Rattle.net_model.specs.Witnesses.{IsUniform, IsUniformFor}
use Rattle.class_graph.specs.declared.modes.Mode.{Mode}
use Rattle.class_graph.specs.declared.modes.Mode.TheVariants.{Routed, Permitted, PermittedOffWaypoint}
use Rattle.class_graph.specs.Answers.{answers_to, Allows, ArcAllows}
use Rattle.class_graph.specs.Graphs.{MayUse}
use Rattle.net_model.proofs.Packets.{first_is_of}
use Rattle.net_model.proofs.Readings.{item_at_place}

list_alike : (net : Network) (class : Class) → IsUniformFor net class → (p q : Packet) → IsOfClass class p → IsOfClass class q →
    (place : ℕ) (o : Option PacketList) → slice_get net.packet_lists place ≡ o →
    IsSomeAnd o (λ l. IsTrue (permits l.entries p)) → IsSomeAnd o (λ l. IsTrue (permits l.entries q))
list_alike net class uniform p q of_p of_q place None at h = h
list_alike net class uniform p q of_p of_q place (Some l) at h =
    let alike : IsUniform l.entries class =
    All-contains (λ (m : PacketList). IsUniform m.entries class) net.packet_lists l uniform (item_at_place net.packet_lists place l at) in
    subst IsTrue (alike p q of_p of_q) h

-- a list that permits one packet of the class permits each
pub lists_alike : (net : Network) (class : Class) → IsUniformFor net class → (p q : Packet) → IsOfClass class p → IsOfClass class q →
    (list : Option ListId) → ListPermits net list p → ListPermits net list q
lists_alike net class uniform p q of_p of_q None h = h
lists_alike net class uniform p q of_p of_q (Some id) h =
    list_alike net class uniform p q of_p of_q id.0 (slice_get net.packet_lists id.0) refl h

pub arc_alike : (net : Network) (class : Class) → IsUniformFor net class → (p q : Packet) → IsOfClass class p → IsOfClass class q →
    (arc : Arc) → ArcPermits net arc p → ArcPermits net arc q
arc_alike net class uniform p q of_p of_q arc h = (
  lists_alike net class uniform p q of_p of_q arc.tail.list_out (h.0),
  lists_alike net class uniform p q of_p of_q arc.head.list_in (h.1),
)

answer_of : (p : Packet) (o : Option PacketList) → IsSomeAnd (option_map (λ (l : PacketList). permits l.entries p) o) IsTrue ↔ IsSomeAnd o (λ l. IsTrue (permits l.entries p))
answer_of p None = (λ h. h, λ h. h)
answer_of p (Some l) = (λ h. h, λ h. h)

-- what lists answer to a packet is whether they permit it
pub allows_is : (net : Network) (p : Packet) (list : Option ListId) → Allows (answers_to net p) list ↔ ListPermits net list p
allows_is net p None = (λ h. h, λ h. h)
allows_is net p (Some id) =
    let got = slice_get-map (λ (l : PacketList). permits l.entries p) net.packet_lists id.0 in
    let is = answer_of p (slice_get net.packet_lists id.0) in (
      λ h. is.0 (subst (λ (o : Option Bool). IsSomeAnd o IsTrue) got h),
      λ h. subst (λ (o : Option Bool). IsSomeAnd o IsTrue) (sym got) (is.1 h),
    )

-- the first packet's answers are those of the class
pub arc_allows_is : (net : Network) (class : Class) → IsUniformFor net class → (arc : Arc) → ArcAllows (answers_to net (first_packet class)) arc ↔ ArcPermitsEach net class arc
arc_allows_is net class uniform arc = (
  λ h. λ p of_p. arc_alike net class uniform (first_packet class) p (first_is_of class) of_p arc (
    (allows_is net (first_packet class) arc.tail.list_out).0 (h.0),
    (allows_is net (first_packet class) arc.head.list_in).0 (h.1),
  ),
  λ h. (
    (allows_is net (first_packet class) arc.tail.list_out).1 ((h (first_packet class) (first_is_of class)).0),
    (allows_is net (first_packet class) arc.head.list_in).1 ((h (first_packet class) (first_is_of class)).1),
  ),
)

pub open_is : (net : Network) (class : Class) → IsUniformFor net class → (up : Bool) (list : Option ListId) →
    (IsTrue up × Allows (answers_to net (first_packet class)) list) ↔ ((p : Packet) → IsOfClass class p → IsTrue up × ListPermits net list p)
open_is net class uniform up list = (
  λ h. λ p of_p. (h.0, lists_alike net class uniform (first_packet class) p (first_is_of class) of_p list ((allows_is net (first_packet class) list).0 (h.1))),
  λ h. let here = h (first_packet class) (first_is_of class) in (here.0, (allows_is net (first_packet class) list).1 (here.1)),
)

-- a mode that takes an arc on one ground takes it on another
pub may_use_by : (mode : Mode) (P Q : Type 0) (waypoint : Bool) → (P → Q) → MayUse mode P waypoint → MayUse mode Q waypoint
may_use_by Routed P Q waypoint f h = h
may_use_by Permitted P Q waypoint f h = f h
may_use_by PermittedOffWaypoint P Q waypoint f h = (f (h.0), h.1)
