-- What is looked at of a closed side: its class's packet of first addresses decides for them all.
use Rattle.std.specs.Prelude.{◌≡◌, List, length, All}
use Rattle.net_model.specs.declared.policies.Class.{Class}
use Rattle.net_model.specs.declared.policies.PolicyKind.{PolicyKind}
use Rattle.net_model.specs.declared.rows.Network.{Network}
use Rattle.net_model.specs.declared.verdicts.ClassSide.{ClassSide}
use Rattle.net_model.specs.Packets.{LiesIn, first_packet}
use Rattle.net_model.specs.Routing.{Arc, tail_router, head_router}
use Rattle.net_model.specs.Forwarding.{Ends, source_router, target_router, ArcPermits, Enters}
use Rattle.net_model.specs.Forwarding.{Leaves}
use Rattle.net_model.specs.Witnesses.{IsUniform, IsOn, MayBreak}

-- the side holds the source if the class's packet of first addresses enters
abbrev pub HoldsSource : Network → Ends → ClassSide → Type 0
HoldsSource net ends shown =
    Enters net ends (first_packet shown.class) → IsOn shown.side (source_router ends)

-- the side holds the target only if that packet does not leave
abbrev pub SparesTarget : Network → Ends → ClassSide → Type 0
SparesTarget net ends shown =
    IsOn shown.side (target_router ends) → ¬ Leaves net ends (first_packet shown.class)

-- the class is a part of the whole on which each list is uniform, and the side has a flag for each
-- router and the right ends inside and outside
pub record Stands (net : Network) (ends : Ends) (whole : Class) (shown : ClassSide) : Type 0 where
  pub part : LiesIn shown.class whole
  pub flags : length shown.side ≡ length net.routers
  pub source : HoldsSource net ends shown
  pub target : SparesTarget net ends shown
  pub uniform : All (λ l. IsUniform l.entries shown.class) net.packet_lists

-- the arc does not lead the class's packet of first addresses off the side
abbrev pub Keeps : Network → Arc → ClassSide → Type 0
Keeps net arc shown =
    IsOn shown.side (tail_router arc) → ArcPermits net arc (first_packet shown.class) →
    IsOn shown.side (head_router arc)

-- nor off any of the sides, if it may break the policy
abbrev pub KeepsEach : Network → PolicyKind → List ClassSide → Arc → Type 0
KeepsEach net kind sides arc = MayBreak kind arc → All (Keeps net arc) sides
