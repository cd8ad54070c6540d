-- Whether the packets of a class enter and leave.
use Rattle.std.proofs.Common.{◌≡◌, ◌↔◌, Bool, IsTrue, subst}
use Rattle.net_model.specs.declared.lists.Packet.{Packet}
use Rattle.net_model.specs.declared.policies.Class.{Class}
use Rattle.net_model.specs.declared.rows.Network.{Network}
use Rattle.net_model.specs.Packets.{IsOfClass, first_packet}
use Rattle.net_model.specs.Forwarding.{Ends, Enters, Leaves}
use Rattle.net_model.specs.Witnesses.{IsUniformFor}
use Rattle.class_graph.specs.declared.hosts.End.{End}
use Rattle.class_graph.specs.declared.hosts.HostPair.{HostPair}
use Rattle.class_graph.specs.Hosts.{IsHostPair, Admits, end_in, end_out}
use Rattle.net_model.proofs.Packets.{first_is_of}
use Rattle.class_graph.proofs.Alike.{lists_alike}

pub through_is : (net : Network) (class : Class) → IsUniformFor net class → (pair : HostPair) (flag : Bool) (packet : Packet) → packet ≡ first_packet class →
    IsTrue flag ↔ (Admits net pair.source packet × Admits net pair.target packet) → (ends : Ends) → IsHostPair net ends pair →
    IsTrue flag ↔ ((p : Packet) → IsOfClass class p → Enters net ends p × Leaves net ends p)
through_is net class uniform pair flag packet packet_is is ends pair_is =
    let first_is : IsTrue flag ↔ (Admits net pair.source (first_packet class) × Admits net pair.target (first_packet class)) =
    subst (λ (p : Packet). IsTrue flag ↔ (Admits net pair.source p × Admits net pair.target p)) packet_is is in
    let source_is : IsTrue flag ↔ (Admits net (end_in ends.source) (first_packet class) × Admits net pair.target (first_packet class)) =
    subst (λ (e : End). IsTrue flag ↔ (Admits net e (first_packet class) × Admits net pair.target (first_packet class))) pair_is.source first_is in
    let both_is : IsTrue flag ↔ (Admits net (end_in ends.source) (first_packet class) × Admits net (end_out ends.target) (first_packet class)) =
    subst (λ (e : End). IsTrue flag ↔ (Admits net (end_in ends.source) (first_packet class) × Admits net e (first_packet class))) pair_is.target source_is in (
      λ on. λ p of_p. (
        ((both_is.0 on).0.0, lists_alike net class uniform (first_packet class) p (first_is_of class) of_p ends.source.list_in ((both_is.0 on).0.1)),
        ((both_is.0 on).1.0, lists_alike net class uniform (first_packet class) p (first_is_of class) of_p ends.target.list_out ((both_is.0 on).1.1)),
      ),
      λ all. both_is.1 (all (first_packet class) (first_is_of class)),
    )
