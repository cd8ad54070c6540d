-- On a class on which each packet list is uniform, one packet stands for all.
use Rattle.std.proofs.Common.{◌≡◌, Option, Some, None, List, get_or, refl, sym, ◌∙◌}
use Rattle.std.specs.Prelude.{IsTrue, IsSomeAnd, slice_get, All, AllPairs, sum_by}
use Rattle.std.proofs.lemmas.List.Elements.{All-contains}
use Rattle.arc_base.specs.declared.place.ListId.{ListId}
use Rattle.net_model.specs.declared.lists.Packet.{Packet}
use Rattle.net_model.specs.declared.lists.PacketList.{PacketList}
use Rattle.net_model.specs.declared.policies.Class.{Class}
use Rattle.net_model.specs.declared.policies.PolicyKind.{PolicyKind}
use Rattle.net_model.specs.declared.rows.Network.{Network}
use Rattle.net_model.specs.declared.verdicts.ClassSide.{ClassSide}
use Rattle.net_model.specs.Lists.{permits}
use Rattle.net_model.specs.Packets.{IsOfClass, ShareNoPacket, packets, first_packet}
use Rattle.net_model.specs.Routing.{Arc, IsArc, IsRouted}
use Rattle.net_model.specs.Forwarding.{Ends, ListPermits}
use Rattle.net_model.specs.Witnesses.{IsUniform, MayBreak, IsRightSide, IsRightClosed}
use Rattle.net_model.proofs.Packets.{first_is_of}
use Rattle.net_model.proofs.Readings.{item_at_place}
use Rattle.witness_check.specs.Cases.{EachRouted}
use Rattle.witness_check.specs.Sides.{Stands, Keeps, KeepsEach}

abbrev Uniform : Network → Class → Type 0
Uniform net class = All (λ l. IsUniform l.entries class) net.packet_lists

at_list : (class : Class) (o : Option PacketList) → ((l : PacketList) → o ≡ Some l → IsUniform l.entries class) → (p q : Packet) → IsOfClass class p → IsOfClass class q →
    IsSomeAnd o (λ l. IsTrue (permits l.entries p)) → IsSomeAnd o (λ l. IsTrue (permits l.entries q))
at_list class None uniform p q at_p at_q permitted = permitted
at_list class (Some l) uniform p q at_p at_q permitted = sym (uniform l refl p q at_p at_q) ∙ permitted

list_same : (net : Network) (class : Class) → Uniform net class → (list : Option ListId) (p q : Packet) → IsOfClass class p → IsOfClass class q → ListPermits net list p → ListPermits net list q
list_same net class uniform None p q at_p at_q permitted = tt
list_same net class uniform (Some id) p q at_p at_q permitted =
    let U : PacketList → Type 0 = λ l. IsUniform l.entries class in
    at_list class (slice_get net.packet_lists id.0) (λ l at. All-contains U net.packet_lists l uniform (item_at_place net.packet_lists id.0 l at)) p q at_p at_q permitted

-- the arc keeps to the side, if it may break the policy
abbrev KeepsOne : Network → PolicyKind → Arc → ClassSide → Type 0
KeepsOne net kind arc shown = MayBreak kind arc → Keeps net arc shown

module _ (net : Network) (ends : Ends) (kind : PolicyKind) (whole : Class) where
  closed_side : (shown : ClassSide) → Stands net ends whole shown → ((arc : Arc) → IsArc net arc → IsRouted net ends.to arc → KeepsOne net kind arc shown) → IsRightSide net ends kind whole shown
  closed_side shown stands keeps = record {
    part = stands.part;
    uniform = stands.uniform;
    closed = record {
      flags = stands.flags;
      source = λ p at enters. stands.source (enters.0, list_same net shown.class stands.uniform ends.source.list_in p (first_packet shown.class) at (first_is_of shown.class) enters.1);
      arcs = λ arc is_arc routed breaks tail p at permitted. keeps arc is_arc routed breaks tail (
        list_same net shown.class stands.uniform arc.tail.list_out p (first_packet shown.class) at (first_is_of shown.class) permitted.0,
        list_same net shown.class stands.uniform arc.head.list_in p (first_packet shown.class) at (first_is_of shown.class) permitted.1,
      );
      target = λ on p at leaves. stands.target on (leaves.0, list_same net shown.class stands.uniform ends.target.list_out p (first_packet shown.class) at (first_is_of shown.class) leaves.1);
    };
  }

  stands_of : (shown : ClassSide) → IsRightSide net ends kind whole shown → Stands net ends whole shown
  stands_of shown right = record {
    part = right.part;
    flags = right.closed.flags;
    source = λ enters. right.closed.source (first_packet shown.class) (first_is_of shown.class) enters;
    target = λ on leaves. right.closed.target on (first_packet shown.class) (first_is_of shown.class) leaves;
    uniform = right.uniform;
  }

  pub right_sides : (sides : List ClassSide) → sum_by (λ c. packets c.class) sides ≡ packets whole → AllPairs (λ c d. ShareNoPacket c.class d.class) sides →
      All (Stands net ends whole) sides → EachRouted net ends.to (KeepsEach net kind sides) → IsRightClosed net ends kind whole sides
  right_sides sides all apart stands keeps = record {
    right = λ k d less. closed_side (get_or sides k d) (stands k d less) (λ arc is_arc routed breaks. keeps arc (is_arc, routed) breaks k d less);
    disjoint = apart;
    all = all;
  }

  pub each_stands_of : (sides : List ClassSide) → IsRightClosed net ends kind whole sides → All (Stands net ends whole) sides
  each_stands_of sides right k d less = stands_of (get_or sides k d) (right.right k d less)

  pub each_keeps_of : (sides : List ClassSide) → IsRightClosed net ends kind whole sides → EachRouted net ends.to (KeepsEach net kind sides)
  each_keeps_of sides right arc routed breaks k d less tail permitted =
      (right.right k d less).closed.arcs arc routed.0 routed.1 breaks tail (first_packet (get_or sides k d).class) (first_is_of (get_or sides k d).class) permitted
