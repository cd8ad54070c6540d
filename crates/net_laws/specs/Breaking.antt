-- What one failure set breaks. A policy holds exactly if none that it allows for breaks it, and
-- each no shows one that does.
use Rattle.std.specs.Prelude.{◌≤◌, ◌↔◌, false, IsTrue, List}
use Rattle.net_model.specs.declared.lists.Packet.{Packet}
use Rattle.net_model.specs.declared.policies.Class.{Class}
use Rattle.net_model.specs.declared.policies.Policy.{Policy}
use Rattle.net_model.specs.declared.policies.PolicyKind.{PolicyKind}
use Rattle.net_model.specs.declared.policies.PolicyKind.TheVariants.{Blocked, Through, Reach}
use Rattle.net_model.specs.declared.rows.Network.{Network}
use Rattle.net_model.specs.declared.verdicts.Verdict.{Verdict}
use Rattle.net_model.specs.declared.verdicts.Verdict.TheVariants.{Walk, Cut}
use Rattle.net_model.specs.Packets.{IsOfClass, subject}
use Rattle.net_model.specs.Routing.{Arc, FailureSet, DistanceMap, IsStable}
use Rattle.net_model.specs.Forwarding.{Ends, AreEnds, Enters, IsDelivered, IsStuck, failures}
use Rattle.net_model.specs.Forwarding.{target_router}
use Rattle.net_model.specs.Policies.{CrossesWaypoint, HoldsAs}
use Rattle.net_model.specs.Witnesses.{IsRight, among, all_but, is_no}

-- the failure set that holds no link
abbrev pub no_link : FailureSet
no_link link = false

-- under this failure set no packet of the class is delivered over any arcs
abbrev pub BlockedUnder : Network → Ends → Class → FailureSet → Type 0
BlockedUnder net ends class failed =
    (d : DistanceMap) → IsStable net ends.to (target_router ends) failed d →
    (p : Packet) → IsOfClass class p → (arcs : List Arc) → IsDelivered net ends failed d p arcs → ⊥

-- under this failure set the arcs over which a packet of the class is delivered cross a waypoint
abbrev pub ThroughUnder : Network → Ends → Class → FailureSet → Type 0
ThroughUnder net ends class failed =
    (d : DistanceMap) → IsStable net ends.to (target_router ends) failed d →
    (p : Packet) → IsOfClass class p →
    (arcs : List Arc) → IsDelivered net ends failed d p arcs → CrossesWaypoint arcs

-- the class reaches its target under this failure set: each packet of it enters and is stuck after
-- no arcs
abbrev pub ReachesUnder : Network → Ends → Class → FailureSet → Type 0
ReachesUnder net ends class failed =
    (d : DistanceMap) → IsStable net ends.to (target_router ends) failed d →
    (p : Packet) → IsOfClass class p →
    Enters net ends p × ((arcs : List Arc) → ¬ IsStuck net ends failed d p arcs)

-- what a kind of policy asks of the class holds under this failure set
abbrev pub HoldsUnder : Network → Ends → Class → PolicyKind → FailureSet → Type 0
HoldsUnder net ends class Blocked failed = BlockedUnder net ends class failed
HoldsUnder net ends class Through failed = ThroughUnder net ends class failed
HoldsUnder net ends class (Reach k) failed = ReachesUnder net ends class failed

-- a kind of policy allows for the failure set: blocked and through for every one, and reach for one
-- with no more links than may fail
abbrev pub SpeaksOf : Network → PolicyKind → FailureSet → Type 0
SpeaksOf net Blocked failed = Unit {0}
SpeaksOf net Through failed = Unit {0}
SpeaksOf net (Reach k) failed = failures net failed ≤ k

-- the failure set breaks what the kind asks of the class: the kind allows for it, and under it this
-- does not hold
pub record BreaksAs (net : Network) (ends : Ends) (class : Class) (kind : PolicyKind)
    (failed : FailureSet) : Type 0 where
  pub spoken : SpeaksOf net kind failed
  pub broken : ¬ HoldsUnder net ends class kind failed

-- the failure set breaks the policy: the policy's class has ends in the network, for which it
-- breaks what the policy asks
pub record Breaks (net : Network) (policy : Policy) (failed : FailureSet) : Type 0 where
  pub ends : Ends
  pub are_ends : AreEnds net (subject policy) ends
  pub breaks : BreaksAs net ends (subject policy) policy.kind failed

-- what a kind asks holds exactly if it holds under each failure set that the kind allows for
abbrev pub HoldsUnderEach : Network → Type 0
HoldsUnderEach net =
    (ends : Ends) (class : Class) (kind : PolicyKind) →
    HoldsAs net ends class kind ↔
    ((failed : FailureSet) → SpeaksOf net kind failed → HoldsUnder net ends class kind failed)

-- the failure set that a no shows: every link but those of its walk, the links of its cut, and no
-- link for a denial
abbrev pub failures_shown : Verdict → FailureSet
failures_shown (Walk class path) = all_but path
failures_shown (Cut links side) = among links
failures_shown _ = no_link

-- each right no shows a failure set that breaks its policy
abbrev pub RightNosBreak : Network → Type 0
RightNosBreak net =
    (policy : Policy) (v : Verdict) → IsRight net policy v → IsTrue (is_no v) →
    Breaks net policy (failures_shown v)
