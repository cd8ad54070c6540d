-- Which policies can be judged, and what is found of their classes.
use Rattle.std.specs.Prelude.{ℕ, ◌<◌, ◌≤◌, List, length, Contains}
use Rattle.arc_base.specs.declared.limits.TheConstants.{CLASS_LIMIT}
use Rattle.net_model.specs.declared.policies.Class.{Class}
use Rattle.net_model.specs.declared.policies.Policy.{Policy}
use Rattle.net_model.specs.declared.policies.PolicyKind.{PolicyKind}
use Rattle.net_model.specs.declared.policies.PolicyKind.TheVariants.{Through}
use Rattle.net_model.specs.declared.rows.Network.{Network}
use Rattle.net_model.specs.declared.verdicts.Verdict.{Verdict}
use Rattle.net_model.specs.declared.verdicts.Verdict.TheVariants.{Walk}
use Rattle.net_model.specs.Forwarding.{Ends}
use Rattle.net_model.specs.Witnesses.{IsRightWalk, IsRightReach, IsRightFor}
use Rattle.class_graph.specs.declared.modes.Mode.{Mode}
use Rattle.class_graph.specs.declared.modes.Mode.TheVariants.{Permitted, PermittedOffWaypoint}
use Rattle.class_graph.specs.Passing.{IsFirstAfter}
use Rattle.traffic_classes.specs.declared.fault.ClassFault.{ClassFault}
use Rattle.traffic_classes.specs.declared.fault.ClassFault.TheVariants as classes
use Rattle.traffic_classes.specs.Classes.{AreClasses}
use Rattle.verdicts.specs.declared.fault.JudgeFault.{JudgeFault}
use Rattle.verdicts.specs.declared.fault.JudgeFault.TheVariants.{TooMany, Memory}
use Rattle.verdicts.specs.declared.blocking.ClassAnswer.{ClassAnswer}
use Rattle.verdicts.specs.declared.blocking.ClassAnswer.TheVariants as answers
use Rattle.verdicts.specs.Fixed.{HasClosedSide, IsLeastClosed, IsFixedBlocking}
use Rattle.verdicts.specs.Fixed.{IsFixedReach, IsFixedFor}

-- the fault of a judgement that comes of a fault of classes
abbrev pub fault_of : ClassFault → JudgeFault
fault_of (classes.TooMany count) = TooMany count
fault_of classes.Memory = Memory

-- a fault of too many classes names a number that the fact holds of, and that is above
-- CLASS_LIMIT
abbrev pub CountsMore : (ℕ → Type 0) → JudgeFault → Type 0
CountsMore P (TooMany count) = P count × (CLASS_LIMIT < count)
CountsMore P Memory = Unit {0}

-- each of the policies has at most CLASS_LIMIT classes
abbrev pub HasFewClassesEach : Network → List Policy → Type 0
HasFewClassesEach net policies =
    (policy : Policy) → Contains policies policy →
    (classes : List Class) → AreClasses net policies policy classes → length classes ≤ CLASS_LIMIT

-- the arcs over which a walk may break a policy of this kind, of those that permit packets
abbrev pub mode_of : PolicyKind → Mode
mode_of Through = PermittedOffWaypoint
mode_of _ = Permitted

-- the answer for a class: its least closed side, or a right walk
abbrev pub IsClassAnswer : Network → Ends → PolicyKind → Class → ClassAnswer → Type 0
IsClassAnswer net ends kind class (answers.Closed side) = IsLeastClosed net ends kind class side
IsClassAnswer net ends kind class (answers.Walk path) = IsRightWalk net ends kind class class path

-- the answer for all classes: the least closed side of each, or a right walk of the first class
-- that has no closed side
abbrev pub IsBlockingAnswer : Network → Ends → PolicyKind → List Class → Verdict → Type 0
IsBlockingAnswer net ends kind classes (Walk class path) =
    IsFirstAfter (HasClosedSide net ends kind) classes class ×
    IsRightWalk net ends kind class class path
IsBlockingAnswer net ends kind classes v = IsFixedBlocking net ends kind classes v

-- the verdict on a reach policy is right, and the one that is given
pub record IsReachVerdict (net : Network) (ends : Ends) (k : ℕ) (whole : Class)
    (classes : List Class) (v : Verdict) : Type 0 where
  pub right : IsRightReach net ends k whole v
  pub fixed : IsFixedReach net ends whole classes v

-- the verdict is right, and the one that is given
pub record IsVerdict (net : Network) (ends : Ends) (kind : PolicyKind) (whole : Class)
    (classes : List Class) (v : Verdict) : Type 0 where
  pub right : IsRightFor net ends kind whole v
  pub fixed : IsFixedFor net ends kind whole classes v
