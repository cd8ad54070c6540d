-- Whether each packet of a class is permitted, enters and leaves, by the answers of lists.
use Rattle.std.proofs.Common.{◌≡◌, ◌↔◌, Bool, false, IsTrue, [], sym, ◌∙◌}
use Rattle.std.proofs.lemmas.Bool.{false≢true}
use Rattle.net_model.specs.declared.lists.Packet.{Packet}
use Rattle.net_model.specs.declared.policies.Class.{Class}
use Rattle.net_model.specs.declared.rows.Network.{Network}
use Rattle.net_model.specs.Packets.{IsOfClass}
use Rattle.net_model.specs.Forwarding.{Ends, Enters, Leaves, source_router, target_router}
use Rattle.net_model.specs.Policies.{IsClear}
use Rattle.arc_base.specs.declared.place.Link.{Link}
use Rattle.arc_nodecut.specs.NodeWitnesses.{IsServed, IsRightSame, IsRightDirect}
use Rattle.arc_nodecut.specs.Judged.{IsJoin}
use Rattle.arc_nodecut.proofs.Judging.{join_of, ends_of}

-- a class that passes is served exactly if it is clear
pub served_if : (net : Network) (ends : Ends) (whole : Class) → ((p : Packet) → IsOfClass whole p → Enters net ends p) × ((p : Packet) → IsOfClass whole p → Leaves net ends p) →
    (b : Bool) → (IsTrue b ↔ IsClear net ends whole) → IsTrue b ↔ IsServed net ends whole
served_if net ends whole passes b tells = (
  λ t. record { clear = tells.0 t; enters = passes.0; leaves = passes.1 },
  λ served. tells.1 served.clear,
)

pub not_served : (net : Network) (ends : Ends) (whole : Class) (b : Bool) →
    (IsTrue b ↔ (((p : Packet) → IsOfClass whole p → Enters net ends p) × ((p : Packet) → IsOfClass whole p → Leaves net ends p))) → b ≡ false →
    IsTrue false ↔ IsServed net ends whole
not_served net ends whole b tells off = (λ t. absurd (false≢true t), λ served. absurd (false≢true (sym off ∙ tells.1 (served.enters, served.leaves))))

-- the two yes answers without paths
pub same_if : (net : Network) (ends : Ends) (whole : Class) → source_router ends ≡ target_router ends → (b : Bool) → (IsTrue b ↔ IsServed net ends whole) → IsTrue b ↔ IsRightSame net ends whole
same_if net ends whole together b tells = (λ t. record { served = tells.0 t; together = together }, λ right. tells.1 right.served)

pub not_same : (net : Network) (ends : Ends) (whole : Class) → (source_router ends ≡ target_router ends → ⊥) → IsTrue false ↔ IsRightSame net ends whole
not_same net ends whole apart = (λ t. absurd (false≢true t), λ right. absurd (apart right.together))

pub direct_if : (net : Network) (ends : Ends) (whole : Class) (link : Link) → (source_router ends ≡ target_router ends → ⊥) → IsJoin net ends.to (source_router ends) (target_router ends) link.0 →
    (b : Bool) → (IsTrue b ↔ IsServed net ends whole) → IsTrue b ↔ IsRightDirect net ends whole link
direct_if net ends whole link apart join b tells =
    (λ t. record { served = tells.0 t; apart = apart; joins = ends_of net ends 0 whole [] link.0 join }, λ right. tells.1 right.served)

pub local_not_direct : (net : Network) (ends : Ends) (whole : Class) (link : Link) → source_router ends ≡ target_router ends → IsTrue false ↔ IsRightDirect net ends whole link
local_not_direct net ends whole link together = (λ t. absurd (false≢true t), λ right. absurd (right.apart together))

pub unjoined_not_direct : (net : Network) (ends : Ends) (whole : Class) (link : Link) →
    (IsJoin net ends.to (source_router ends) (target_router ends) link.0 → ⊥) → IsTrue false ↔ IsRightDirect net ends whole link
unjoined_not_direct net ends whole link none = (λ t. absurd (false≢true t), λ right. absurd (none (join_of net ends 0 whole [] link.0 right.joins)))
