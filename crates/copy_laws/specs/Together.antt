-- A copy that departs from the network in its lists and in its adjacencies at once, also where
-- routers know more than the model.
use Rattle.std.specs.Prelude.{ℕ, ◌+◌, ◌≤◌, List}
use Rattle.net_model.specs.declared.lists.Packet.{Packet}
use Rattle.net_model.specs.declared.policies.Class.{Class}
use Rattle.net_model.specs.declared.policies.Policy.{Policy}
use Rattle.net_model.specs.declared.policies.PolicyKind.{PolicyKind}
use Rattle.net_model.specs.declared.policies.PolicyKind.TheVariants.{Blocked, Through, Reach}
use Rattle.net_model.specs.declared.rows.Network.{Network}
use Rattle.net_model.specs.Packets.{IsOfClass, subject}
use Rattle.net_model.specs.Routing.{Arc, FailureSet, DistanceMap, IsStable}
use Rattle.net_model.specs.Forwarding.{Ends, AreEnds, failures, target_router}
use Rattle.net_model.specs.Policies.{CrossesWaypoint, Meets}
use Rattle.net_model.specs.Validity.{IsValid}
use Rattle.net_laws.specs.Breaking.{SpeaksOf}
use Rattle.copy_laws.specs.Passing.{IsBarring, RealPacket, RealNetwork, PermitsMoreReally}
use Rattle.copy_laws.specs.Passing.{PermitsFewerReally, MeetsReally}
use Rattle.copy_laws.specs.Beyond.{NextHops, AgreesWhereKnown, StayAway, IsDeliveredBy, IsSure}
use Rattle.copy_laws.specs.Adjacencies.{HasFewerLinks, reach_of}

-- where the copy has more adjacencies than a network between, and that permits more than the
-- network as it is, a yes of blocked or through over the copy is true of the network as it is
abbrev pub BothKeepBarred : Type 0
BothKeepBarred =
    (real : RealNetwork) (between copy : Network) (down : FailureSet) →
    PermitsMoreReally real between → HasFewerLinks between copy down →
    (policy : Policy) → IsBarring policy.kind → Meets copy policy → MeetsReally real policy

-- and where it permits fewer, a yes of reach under k + L failures as one under k, if no more than L
-- links are down
abbrev pub BothCostReach : Type 0
BothCostReach =
    (real : RealNetwork) (between copy : Network) (down : FailureSet) →
    PermitsFewerReally real between → HasFewerLinks between copy down →
    (L : ℕ) → failures copy down ≤ L → (class : Class) (k : ℕ) →
    Meets copy (reach_of class (k + L)) → MeetsReally real (reach_of class k)

-- what a kind of policy asks of one packet holds by these next hops
abbrev pub HoldsBy : Network → Ends → NextHops → Packet → PolicyKind → Type 0
HoldsBy net ends sends p Blocked = (arcs : List Arc) → IsDeliveredBy net ends sends p arcs → ⊥
HoldsBy net ends sends p Through =
    (arcs : List Arc) → IsDeliveredBy net ends sends p arcs → CrossesWaypoint arcs
HoldsBy net ends sends p (Reach k) = IsSure net ends sends p

-- the network does with the packet as the policy asks by all next hops that agree with the model
-- and are of this sort: its class has ends, for which this holds under each failure set that the
-- policy allows for
pub record MeetsBy (net : Network) (policy : Policy) (p : Packet)
    (AreOfSort : Ends → DistanceMap → NextHops → Type 0) : Type 0 where
  pub ends : Ends
  pub are_ends : AreEnds net (subject policy) ends
  pub holds : (failed : FailureSet) → SpeaksOf net policy.kind failed →
      (d : DistanceMap) → IsStable net ends.to (target_router ends) failed d →
      (sends : NextHops) → AgreesWhereKnown net ends.to failed d sends → AreOfSort ends d sends →
      HoldsBy net ends sends p policy.kind

-- so with such a copy, and routers that know more, blocked and through hold of each packet as it is
-- if none comes back
abbrev pub AllKeepBarred : Type 0
AllKeepBarred =
    (real : RealNetwork) (between copy : Network) (down : FailureSet) →
    PermitsMoreReally real between → HasFewerLinks between copy down →
    (policy : Policy) → IsBarring policy.kind → Meets copy policy →
    (x : RealPacket) → IsOfClass (subject policy) x.seen → MeetsBy (real x) policy x.seen StayAway

-- and each packet as it is of a class that reaches its target is sure to be delivered, whatever
-- routers do with what they have no modelled route for
abbrev pub AllCostReach : Type 0
AllCostReach =
    (real : RealNetwork) (between copy : Network) (down : FailureSet) → IsValid copy →
    PermitsFewerReally real between → HasFewerLinks between copy down →
    (L : ℕ) → failures copy down ≤ L → (class : Class) (k : ℕ) →
    Meets copy (reach_of class (k + L)) →
    (x : RealPacket) → IsOfClass class x.seen →
    MeetsBy (real x) (reach_of class k) x.seen (λ ends d sends. Unit {0})
