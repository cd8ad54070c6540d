-- Routers that know more than the model, as by a default route: their next hops are the model's
-- where a router has a modelled route, and any at all where it has none.
use Rattle.std.specs.Prelude.{◌≡◌, ◌⊎◌, ℕ, zero, suc, ◌≤◌, Bool, IsTrue, Some, None, List, [], ◌∷◌}
use Rattle.arc_base.specs.declared.prefix.Prefix.{Prefix}
use Rattle.net_model.specs.declared.lists.Packet.{Packet}
use Rattle.net_model.specs.declared.policies.Class.{Class}
use Rattle.net_model.specs.declared.rows.Network.{Network}
use Rattle.net_model.specs.Packets.{IsOfClass}
use Rattle.net_model.specs.Routing.{Arc, FailureSet, DistanceMap, IsStable, tail_router}
use Rattle.net_model.specs.Routing.{head_router}
use Rattle.net_model.specs.Forwarding.{Ends, AreEnds, Attains, ArcPermits, Enters, Leaves, failures}
use Rattle.net_model.specs.Forwarding.{IsDelivered, source_router, target_router}
use Rattle.net_model.specs.declared.policies.PolicyKind.TheVariants.{Reach}
use Rattle.net_model.specs.Policies.{IsBlocked, GoesThrough, Reaches, CrossesWaypoint}
use Rattle.net_model.specs.Validity.{IsValid}
use Rattle.copy_laws.specs.Passing.{HoldsFor}

-- next hops: the arcs, of the network or out of it, over which routers may send a packet on, given
-- by their test
abbrev pub NextHops : Type 0
NextHops = Arc → Bool

-- the next hops agree with the model: a router that has a distance sends only over arcs that attain
-- it, and over one or more of them where there are any; a router without one may send anywhere
pub record AgreesWhereKnown (net : Network) (to : Prefix) (failed : FailureSet) (d : DistanceMap)
    (sends : NextHops) : Type 0 where
  pub only : (arc : Arc) (n : ℕ) → d (tail_router arc) ≡ Some n → IsTrue (sends arc) →
      Attains net to failed d arc
  pub some : (arc : Arc) → Attains net to failed d arc →
      (other : Arc) × (tail_router other ≡ tail_router arc) × IsTrue (sends other)

-- a packet does not come back: from a router without a distance it is sent only to such routers, or
-- out of the network, or is dropped
abbrev pub NoneComesBack : DistanceMap → NextHops → Type 0
NoneComesBack d sends =
    (arc : Arc) → IsTrue (sends arc) → d (tail_router arc) ≡ None → d (head_router arc) ≡ None

-- packets of these ends do not come back: their source router has a distance, or none comes back
abbrev pub StayAway : Ends → DistanceMap → NextHops → Type 0
StayAway ends d sends = d (source_router ends) ≡ None → NoneComesBack d sends

-- the arcs are a walk of the packet by these next hops: each begins where the packet is, is one of
-- them, and permits the packet
abbrev pub WalkBy : Network → NextHops → Packet → ℕ → List Arc → ℕ → Type 0
WalkBy net sends p u [] v = u ≡ v
WalkBy net sends p u (arc ∷ arcs) v =
    (tail_router arc ≡ u) × IsTrue (sends arc) × ArcPermits net arc p ×
    WalkBy net sends p (head_router arc) arcs v

-- the packet is delivered over these arcs by these next hops
pub record IsDeliveredBy (net : Network) (ends : Ends) (sends : NextHops) (p : Packet)
    (arcs : List Arc) : Type 0 where
  pub enters : Enters net ends p
  pub walk : WalkBy net sends p (source_router ends) arcs (target_router ends)
  pub leaves : Leaves net ends p

-- the router sends the packet on: it has an arc to send over, and each such arc permits the packet
pub record SendsOn (net : Network) (sends : NextHops) (p : Packet) (u : ℕ) : Type 0 where
  pub some : (arc : Arc) × (tail_router arc ≡ u) × IsTrue (sends arc)
  pub all : (arc : Arc) → tail_router arc ≡ u → IsTrue (sends arc) → ArcPermits net arc p

-- the packet is sure to arrive from the router over at most this many arcs, whichever it is sent
-- over: it is at its target and leaves, or it is sent on, and is then sure to arrive over one arc
-- less
abbrev pub IsSureFrom : Network → Ends → NextHops → Packet → ℕ → ℕ → Type 0
IsSureFrom net ends sends p zero u = (u ≡ target_router ends) × Leaves net ends p
IsSureFrom net ends sends p (suc n) u =
    ((u ≡ target_router ends) × Leaves net ends p) ⊎
    (SendsOn net sends p u × ((arc : Arc) → tail_router arc ≡ u → IsTrue (sends arc) →
    IsSureFrom net ends sends p n (head_router arc)))

-- the packet is sure to be delivered: it enters, and is sure to arrive from its source
pub record IsSure (net : Network) (ends : Ends) (sends : NextHops) (p : Packet) : Type 0 where
  pub enters : Enters net ends p
  pub within : ℕ
  pub arrives : IsSureFrom net ends sends p within (source_router ends)

-- a packet of which reach holds in the model under a failure set is sure to be delivered, whatever
-- routers do that have no modelled route
abbrev pub PacketIsSure : Type 0
PacketIsSure =
    (net : Network) → IsValid net → (ends : Ends) (class : Class) → AreEnds net class ends →
    (failed : FailureSet) (d : DistanceMap) → IsStable net ends.to (target_router ends) failed d →
    (sends : NextHops) → AgreesWhereKnown net ends.to failed d sends →
    (p : Packet) (k : ℕ) → HoldsFor net ends p (Reach k) failed → IsSure net ends sends p

-- so where a class reaches its target in the model under k failures, each packet of it is sure to
-- be delivered under each such failure set
abbrev pub ReachIsSure : Type 0
ReachIsSure =
    (net : Network) → IsValid net →
    (ends : Ends) (class : Class) (k : ℕ) → AreEnds net class ends → Reaches net ends class k →
    (failed : FailureSet) (d : DistanceMap) → failures net failed ≤ k →
    IsStable net ends.to (target_router ends) failed d →
    (sends : NextHops) → AgreesWhereKnown net ends.to failed d sends →
    (p : Packet) → IsOfClass class p → IsSure net ends sends p

-- if they stay away, a packet is delivered only over arcs over which the model delivers it
abbrev pub DeliversAsModel : Type 0
DeliversAsModel =
    (net : Network) (ends : Ends) (failed : FailureSet) (d : DistanceMap) →
    IsStable net ends.to (target_router ends) failed d →
    (sends : NextHops) → AgreesWhereKnown net ends.to failed d sends → StayAway ends d sends →
    (p : Packet) (arcs : List Arc) →
    IsDeliveredBy net ends sends p arcs → IsDelivered net ends failed d p arcs

-- so where a class is blocked in the model, no packet of it is delivered
abbrev pub BlockedStays : Type 0
BlockedStays =
    (net : Network) (ends : Ends) (class : Class) → IsBlocked net ends class →
    (failed : FailureSet) (d : DistanceMap) → IsStable net ends.to (target_router ends) failed d →
    (sends : NextHops) → AgreesWhereKnown net ends.to failed d sends → StayAway ends d sends →
    (p : Packet) → IsOfClass class p → (arcs : List Arc) → IsDeliveredBy net ends sends p arcs → ⊥

-- and where it goes through a waypoint in the model, the arcs over which a packet of it is
-- delivered cross one
abbrev pub ThroughStays : Type 0
ThroughStays =
    (net : Network) (ends : Ends) (class : Class) → GoesThrough net ends class →
    (failed : FailureSet) (d : DistanceMap) → IsStable net ends.to (target_router ends) failed d →
    (sends : NextHops) → AgreesWhereKnown net ends.to failed d sends → StayAway ends d sends →
    (p : Packet) → IsOfClass class p →
    (arcs : List Arc) → IsDeliveredBy net ends sends p arcs → CrossesWaypoint arcs
