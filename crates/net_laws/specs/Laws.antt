-- Laws over the definitions alone: that there is one stable map, and that each right witness shows
-- what its verdict says.
use Rattle.std.specs.Prelude.{◌≡◌, ℕ, ◌<◌, Bool, List, length, ◌≤◌, ◌↔◌, None, IsTrue}
use Rattle.arc_base.specs.declared.place.Link.{Link}
use Rattle.arc_base.specs.declared.prefix.Prefix.{Prefix}
use Rattle.net_model.specs.declared.rows.Network.{Network}
use Rattle.net_model.specs.declared.lists.Packet.{Packet}
use Rattle.net_model.specs.declared.policies.Class.{Class}
use Rattle.net_model.specs.declared.policies.PolicyKind.{PolicyKind}
use Rattle.net_model.specs.declared.policies.PolicyKind.TheVariants.{Blocked, Through}
use Rattle.net_model.specs.declared.policies.Policy.{Policy}
use Rattle.net_model.specs.declared.verdicts.Verdict.{Verdict}
use Rattle.net_model.specs.declared.verdicts.Verdict.TheVariants.{Closed, Paths, Walk, Denied, Cut}
use Rattle.net_model.specs.declared.verdicts.Verdict.TheVariants.{Refused}
use Rattle.net_model.specs.declared.verdicts.ClassSide.{ClassSide}
use Rattle.net_model.specs.declared.verdicts.LinkPath.{LinkPath}
use Rattle.net_model.specs.Validity.{IsValid}
use Rattle.net_model.specs.Packets.{IsOfClass, subject}
use Rattle.net_model.specs.Routing.{Arc, FailureSet, DistanceMap, IsStable}
use Rattle.net_model.specs.Forwarding.{Ends, AreEnds, IsDelivered, failures, source_router}
use Rattle.net_model.specs.Forwarding.{target_router}
use Rattle.net_model.specs.Policies.{IsBlocked, GoesThrough, IsClear, Reaches, HoldsAs, MeetsAs}
use Rattle.net_model.specs.Policies.{Meets}
use Rattle.net_model.specs.Witnesses.{IsRightClosed, IsRightPaths, IsRightDenied, IsRightRefused}
use Rattle.net_model.specs.Witnesses.{is_yes, IsRightWalk, IsRightCut, IsRight, among, all_but}

-- at most one map is stable for a host network, its owner and a failure set: two stable maps agree
-- on every router of the network
abbrev pub HasOneStableMap : Network → Type 0
HasOneStableMap net =
    (to : Prefix) (owner : ℕ) (failed : FailureSet) (d e : DistanceMap) →
    IsStable net to owner failed d → IsStable net to owner failed e →
    (u : ℕ) → u < length net.routers → d u ≡ e u

-- right closed sides for blocked show that the class is blocked
abbrev pub ClosedSidesBlock : Type 0
ClosedSidesBlock =
    (net : Network) (ends : Ends) (whole : Class) (sides : List ClassSide) →
    IsRightClosed net ends Blocked whole sides → IsBlocked net ends whole

-- right closed sides for through show that the class goes through a waypoint
abbrev pub ClosedSidesForceThrough : Type 0
ClosedSidesForceThrough =
    (net : Network) (ends : Ends) (whole : Class) (sides : List ClassSide) →
    IsRightClosed net ends Through whole sides → GoesThrough net ends whole

-- a path delivers the class: some map is stable where all links have failed but the path's, and
-- each packet of the class is then delivered over the path
pub record Delivers (net : Network) (ends : Ends) (class : Class) (shown : LinkPath)
    (arcs : List Arc) : Type 0 where
  pub distances : DistanceMap
  pub stable : IsStable net ends.to (target_router ends) (all_but shown) distances
  pub delivered : (p : Packet) → IsOfClass class p →
      IsDelivered net ends (all_but shown) distances p arcs

-- a right walk delivers its class over its path
abbrev pub RightWalksAreDelivered : Type 0
RightWalksAreDelivered =
    (net : Network) (ends : Ends) (kind : PolicyKind) (whole class : Class) (shown : LinkPath) →
    (right : IsRightWalk net ends kind whole class shown) →
    Delivers net ends class shown right.path.arcs

-- so a right walk for blocked shows that the class is not blocked
abbrev pub RightWalksUnblock : Type 0
RightWalksUnblock =
    (net : Network) (ends : Ends) (whole class : Class) (shown : LinkPath) →
    IsRightWalk net ends Blocked whole class shown → ¬ IsBlocked net ends whole

-- and a right walk for through shows that it does not go through a waypoint
abbrev pub RightWalksBypass : Type 0
RightWalksBypass =
    (net : Network) (ends : Ends) (whole class : Class) (shown : LinkPath) →
    IsRightWalk net ends Through whole class shown → ¬ GoesThrough net ends whole

-- in a valid network right paths show that the class reaches its target
abbrev pub RightPathsReach : Type 0
RightPathsReach =
    (net : Network) → IsValid net →
    (ends : Ends) (k : ℕ) (whole : Class) (paths : List LinkPath) →
    IsRightPaths net ends k whole paths → Reaches net ends whole k

-- a right refusal shows that the class is not clear
abbrev pub RefusalsAreRight : Type 0
RefusalsAreRight =
    (net : Network) (ends : Ends) (whole : Class) (p : Packet) (link : Link) →
    IsRightRefused net ends whole p link → ¬ IsClear net ends whole

-- at least one map is stable for a host network, its owner and a failure set
abbrev pub HasStableMap : Network → Type 0
HasStableMap net =
    (to : Prefix) (owner : ℕ) (failed : FailureSet) →
    (d : DistanceMap) × IsStable net to owner failed d

-- in a valid network the links of a right cut are no more than may fail, and with them failed the
-- source router has no distance
abbrev pub RightCutsSeparate : Type 0
RightCutsSeparate =
    (net : Network) → IsValid net →
    (ends : Ends) (k : ℕ) (whole : Class) (links : List Link) (side : List Bool) →
    AreEnds net whole ends → IsRightCut net ends k whole links side →
    (failures net (among links) ≤ k) × ((d : DistanceMap) →
    IsStable net ends.to (target_router ends) (among links) d → d (source_router ends) ≡ None)

-- so the class does not reach its target
abbrev pub RightCutsBreakReach : Type 0
RightCutsBreakReach =
    (net : Network) → IsValid net →
    (ends : Ends) (k : ℕ) (whole : Class) (links : List Link) (side : List Bool) →
    AreEnds net whole ends → IsRightCut net ends k whole links side → ¬ Reaches net ends whole k

-- nor does it where a part of it is rightly denied
abbrev pub RightDenialsBreakReach : Type 0
RightDenialsBreakReach =
    (net : Network) → IsValid net → (ends : Ends) (k : ℕ) (whole class : Class) →
    AreEnds net whole ends → IsRightDenied net ends whole class → ¬ Reaches net ends whole k

-- a class has at most one pair of ends
abbrev pub HasOnePairOfEnds : Network → Type 0
HasOnePairOfEnds net =
    (class : Class) (ends others : Ends) → AreEnds net class ends →
    AreEnds net class others → ends ≡ others

-- what a verdict says of a class: a yes that it meets the kind of policy, a no that what the kind
-- asks does not hold, a refusal that it is not clear
abbrev pub VerdictSays : Network → Ends → Class → PolicyKind → Verdict → Type 0
VerdictSays net ends whole kind (Closed sides) = MeetsAs net ends whole kind
VerdictSays net ends whole kind (Paths paths) = MeetsAs net ends whole kind
VerdictSays net ends whole kind (Walk class path) = ¬ HoldsAs net ends whole kind
VerdictSays net ends whole kind (Denied class) = IsClear net ends whole ×
    (¬ HoldsAs net ends whole kind)
VerdictSays net ends whole kind (Cut links side) = IsClear net ends whole ×
    (¬ HoldsAs net ends whole kind)
VerdictSays net ends whole kind (Refused p link) = ¬ IsClear net ends whole

-- what a right verdict says is true
abbrev pub RightVerdictsAreTrue : Network → Type 0
RightVerdictsAreTrue net =
    (policy : Policy) (v : Verdict) →
    (right : IsRight net policy v) → VerdictSays net right.ends (subject policy) policy.kind v

-- a right verdict is a yes exactly where the network meets the policy
abbrev pub RightVerdictsDecide : Network → Type 0
RightVerdictsDecide net =
    (policy : Policy) (v : Verdict) → IsRight net policy v → IsTrue (is_yes v) ↔ Meets net policy
