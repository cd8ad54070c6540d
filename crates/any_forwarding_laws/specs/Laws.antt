-- Laws of any forwarding. In an open network closed sides stop every forwarding, not only that of
-- the routing protocol; and a verdict on a copy holds for each network that the copy covers.
use Rattle.std.specs.Prelude.{◌≡◌, ◌↔◌, ℕ, IsTrue, IsFalse, IsSome, Some, List, All, slice_get}
use Rattle.net_model.specs.declared.lists.Packet.{Packet}
use Rattle.net_model.specs.declared.policies.Class.{Class}
use Rattle.net_model.specs.declared.policies.Policy.{Policy}
use Rattle.net_model.specs.declared.policies.PolicyKind.TheVariants.{Blocked, Through}
use Rattle.net_model.specs.declared.rows.Protocol.TheVariants.{Ospf}
use Rattle.net_model.specs.declared.rows.FaceRow.{FaceRow}
use Rattle.net_model.specs.declared.rows.Network.{Network}
use Rattle.net_model.specs.declared.verdicts.ClassSide.{ClassSide}
use Rattle.net_model.specs.declared.verdicts.LinkPath.{LinkPath}
use Rattle.net_model.specs.declared.verdicts.Verdict.{Verdict}
use Rattle.net_model.specs.Validity.{IsLinkEnd}
use Rattle.net_model.specs.Packets.{IsOfClass, subject}
use Rattle.net_model.specs.Routing.{Arc, FailureSet, DistanceMap, tail_router, head_router}
use Rattle.net_model.specs.Forwarding.{Ends, AreEnds, ArcPermits, IsDelivered}
use Rattle.net_model.specs.Policies.{CrossesWaypoint, IsBlocked, GoesThrough}
use Rattle.net_model.specs.Witnesses.{is_yes, IsRightClosed, IsRightWalk, IsRight}
use Rattle.any_forwarding_laws.specs.Forwardings.{IsCarried, NoneDelivers, EachCrosses}
use Rattle.any_forwarding_laws.specs.Forwardings.{IsOpenNetwork}
use Rattle.any_forwarding_laws.specs.Copies.{HasWay, Covers, IsWiderFace, IsWider, LeadsOverHub}
use Rattle.net_laws.specs.Examples.{two_routers}

-- in an open network right closed sides for blocked show that no forwarding delivers a packet of
-- the class
abbrev pub ClosedSidesStop : Type 0
ClosedSidesStop =
    (net : Network) → IsOpenNetwork net →
    (ends : Ends) (whole : Class) (sides : List ClassSide) → AreEnds net whole ends →
    IsRightClosed net ends Blocked whole sides → NoneDelivers net ends whole

-- and for through, that the arcs over which any forwarding delivers a packet of it cross a waypoint
abbrev pub ClosedSidesForceWaypoints : Type 0
ClosedSidesForceWaypoints =
    (net : Network) → IsOpenNetwork net →
    (ends : Ends) (whole : Class) (sides : List ClassSide) → AreEnds net whole ends →
    IsRightClosed net ends Through whole sides → EachCrosses net ends whole

-- a packet that the routing protocol delivers over some arcs is carried over them
abbrev pub ModelDeliveriesAreCarried : Type 0
ModelDeliveriesAreCarried =
    (net : Network) (ends : Ends) (failed : FailureSet) (d : DistanceMap) (p : Packet)
    (arcs : List Arc) → IsDelivered net ends failed d p arcs → IsCarried net ends p arcs

-- so what holds for any forwarding holds for that of the routing protocol
abbrev pub AnyIsStronger : Type 0
AnyIsStronger =
    (net : Network) (ends : Ends) (class : Class) →
    (NoneDelivers net ends class → IsBlocked net ends class) ×
    (EachCrosses net ends class → GoesThrough net ends class)

-- a right walk shows that what its policy asks does not hold for any forwarding
abbrev pub WalksAreCarried : Type 0
WalksAreCarried =
    (net : Network) (ends : Ends) (whole class : Class) (shown : LinkPath) →
    (IsRightWalk net ends Blocked whole class shown → ¬ NoneDelivers net ends whole) ×
    (IsRightWalk net ends Through whole class shown → ¬ EachCrosses net ends whole)

-- in the network a right verdict on a blocked or through policy is a yes exactly where what the
-- policy asks holds for any forwarding
abbrev pub VerdictsDecideAny : Network → Type 0
VerdictsDecideAny net =
    (policy : Policy) (v : Verdict) → (right : IsRight net policy v) →
    (policy.kind ≡ Blocked → IsTrue (is_yes v) ↔
    NoneDelivers net right.ends (subject policy)) ×
    (policy.kind ≡ Through → IsTrue (is_yes v) ↔
    EachCrosses net right.ends (subject policy))

-- so it is in an open network
abbrev pub RightVerdictsDecideAny : Type 0
RightVerdictsDecideAny = (net : Network) → IsOpenNetwork net → VerdictsDecideAny net

-- the interface runs OSPF and is not passive, and has an address
pub record IsActive (face : FaceRow) : Type 0 where
  pub enabled : IsTrue face.enabled
  pub active : IsFalse face.passive
  pub addressed : IsSome face.addr

-- OSPF runs everywhere: at each end of a link that is up, none of them passive, and each host
-- network is advertised
pub record RunsEverywhere (net : Network) : Type 0 where
  pub protocol : net.protocol ≡ Ospf
  pub ends : (place : ℕ) (face : FaceRow) → slice_get net.faces place ≡ Some face →
      IsLinkEnd net place → IsTrue face.up → IsActive face
  pub told : All (λ face. IsSome face.host → IsTrue face.told) net.faces

-- a network in which OSPF runs everywhere is open
abbrev pub EverywhereIsOpen : Network → Type 0
EverywhereIsOpen net = RunsEverywhere net → IsOpenNetwork net

-- the network of two routers and one link is open
abbrev pub ExampleIsOpen : Type 0
ExampleIsOpen = IsOpenNetwork two_routers

-- the copy carries the packet over some arcs, which cross a waypoint only if these do
pub record CarriesAlike (copy : Network) (copied : Ends) (p : Packet)
    (arcs : List Arc) : Type 0 where
  pub others : List Arc
  pub carried : IsCarried copy copied p others
  pub crosses : CrossesWaypoint others → CrossesWaypoint arcs

-- what a network carries, each copy that covers it carries alike
abbrev pub CoveredDeliveriesAreCarried : Type 0
CoveredDeliveriesAreCarried =
    (copy net : Network) (copied ends : Ends) (class : Class) → Covers copy copied net ends class →
    (p : Packet) → IsOfClass class p →
    (arcs : List Arc) → IsCarried net ends p arcs → CarriesAlike copy copied p arcs

-- so right closed sides of an open copy show that no forwarding of the network delivers a packet
abbrev pub ClosedCopiesStop : Type 0
ClosedCopiesStop =
    (copy net : Network) (copied ends : Ends) (whole : Class) (sides : List ClassSide) →
    IsOpenNetwork copy → AreEnds copy whole copied → Covers copy copied net ends whole →
    IsRightClosed copy copied Blocked whole sides → NoneDelivers net ends whole

-- and for through, that the arcs over which any forwarding of it delivers a packet cross a waypoint
abbrev pub ClosedCopiesForceWaypoints : Type 0
ClosedCopiesForceWaypoints =
    (copy net : Network) (copied ends : Ends) (whole : Class) (sides : List ClassSide) →
    IsOpenNetwork copy → AreEnds copy whole copied → Covers copy copied net ends whole →
    IsRightClosed copy copied Through whole sides → EachCrosses net ends whole

-- a wider copy covers the network, where its ends are wider, too
abbrev pub WiderCopiesCover : Type 0
WiderCopiesCover =
    (copy net : Network) (copied ends : Ends) (class : Class) → IsWider copy net class →
    IsWiderFace copy copied.source net ends.source class →
    IsWiderFace copy copied.target net ends.target class → Covers copy copied net ends class

-- a network covers itself
abbrev pub EachCoversItself : Type 0
EachCoversItself =
    (net : Network) (ends : Ends) (class : Class) → Covers net ends net ends class

-- what covers a copy that covers a network covers the network
abbrev pub CoversInTurn : Type 0
CoversInTurn =
    (last copy net : Network) (last_ends copied ends : Ends) (class : Class) →
    Covers last last_ends copy copied class → Covers copy copied net ends class →
    Covers last last_ends net ends class

-- two arcs over a hub lead each packet of the class that the arc in whose place they are permits
abbrev pub HubsLeadOn : Type 0
HubsLeadOn =
    (copy net : Network) (class : Class) (arc : Arc) → LeadsOverHub copy net class arc →
    (p : Packet) → IsOfClass class p → ArcPermits net arc p →
    HasWay copy p (tail_router arc) (head_router arc) (IsTrue arc.row.waypoint)
