-- Which of the right verdicts is given.
use Rattle.std.specs.Prelude.{◌≡◌, ℕ, ◌<◌, ◌≤◌, ◌↔◌, Bool, List, map, length, All, AllPairs}
use Rattle.std.specs.Prelude.{Contains}
use Rattle.arc_base.specs.declared.limits.TheConstants.{CLASS_LIMIT}
use Rattle.arc_base.specs.declared.place.Link.{Link}
use Rattle.net_model.specs.declared.lists.Packet.{Packet}
use Rattle.net_model.specs.declared.policies.Class.{Class}
use Rattle.net_model.specs.declared.policies.Policy.{Policy}
use Rattle.net_model.specs.declared.policies.PolicyKind.{PolicyKind}
use Rattle.net_model.specs.declared.policies.PolicyKind.TheVariants.{Blocked, Through, Reach}
use Rattle.net_model.specs.declared.rows.Network.{Network}
use Rattle.net_model.specs.declared.verdicts.ClassSide.{ClassSide}
use Rattle.net_model.specs.declared.verdicts.Verdict.{Verdict}
use Rattle.net_model.specs.declared.verdicts.Verdict.TheVariants.{Closed, Paths, Walk, Denied, Cut}
use Rattle.net_model.specs.declared.verdicts.Verdict.TheVariants.{Refused}
use Rattle.net_model.specs.Packets.{IsOfClass, subject, first_packet}
use Rattle.net_model.specs.Routing.{Arc, IsArc, IsRouted}
use Rattle.net_model.specs.Forwarding.{Ends, AreEnds, source_router, target_router, ArcPermits}
use Rattle.net_model.specs.Witnesses.{IsOn, IsClosed, LeavesSide}
use Rattle.class_graph.specs.Denials.{IsDeniedOn}
use Rattle.class_graph.specs.Passing.{IsFirstAfter, EachPasses}
use Rattle.graph_flow.specs.Answers.{AreInLinkOrder}
use Rattle.traffic_classes.specs.Classes.{AreClasses}

-- the side is closed, and every closed side holds its routers
pub record IsLeastClosed (net : Network) (ends : Ends) (kind : PolicyKind) (class : Class)
    (side : List Bool) : Type 0 where
  pub closed : IsClosed net ends kind class side
  pub least : (other : List Bool) → IsClosed net ends kind class other →
      (router : ℕ) → IsOn side router → IsOn other router

-- some side is closed for the class
abbrev pub HasClosedSide : Network → Ends → PolicyKind → Class → Type 0
HasClosedSide net ends kind class = (side : List Bool) × IsClosed net ends kind class side

-- the classes of the sides are these in order, and each side is the least closed one of its class
pub record AreLeastSides (net : Network) (ends : Ends) (kind : PolicyKind) (classes : List Class)
    (sides : List ClassSide) : Type 0 where
  pub in_order : map (λ s. s.class) sides ≡ classes
  pub least : All (λ s. IsLeastClosed net ends kind s.class s.side) sides

-- for a blocked or through policy: the least closed side of each class in order, or a walk of the
-- first class that has no closed side
abbrev pub IsFixedBlocking : Network → Ends → PolicyKind → List Class → Verdict → Type 0
IsFixedBlocking net ends kind classes (Closed sides) = AreLeastSides net ends kind classes sides
IsFixedBlocking net ends kind classes (Walk class path) =
    IsFirstAfter (HasClosedSide net ends kind) classes class
IsFixedBlocking net ends kind classes (Paths paths) = ⊥
IsFixedBlocking net ends kind classes (Denied class) = ⊥
IsFixedBlocking net ends kind classes (Cut links side) = ⊥
IsFixedBlocking net ends kind classes (Refused p link) = ⊥

-- the links, rising, are exactly those of the routed arcs that leave the side, and the side has the
-- source and not the target
pub record IsSeparator (net : Network) (ends : Ends) (links : List Link)
    (side : List Bool) : Type 0 where
  pub source : IsOn side (source_router ends)
  pub target : ¬ IsOn side (target_router ends)
  pub rising : AllPairs (λ k l. k.0 < l.0) links
  pub cut : (l : Link) →
      Contains links l ↔ ((arc : Arc) × (arc.link ≡ l.0) × LeavesSide net ends.to side arc)

-- the least cut that there is, once every packet enters and leaves: no side is left by fewer links,
-- and its side lies in every side that no more links leave
pub record IsLeastCut (net : Network) (ends : Ends) (whole : Class) (links : List Link)
    (side : List Bool) : Type 0 where
  pub passes : EachPasses net ends whole
  pub fewest : (others : List Link) (other : List Bool) → IsSeparator net ends others other →
      length links ≤ length others
  pub least : (others : List Link) (other : List Bool) → IsSeparator net ends others other →
      length others ≤ length links →
      (router : ℕ) → IsOn side router → IsOn other router

-- the first refusal: no routed arc of a lower link denies a packet, and the packet is the first one
-- of the first class that the link denies
pub record IsFirstRefusal (net : Network) (ends : Ends) (whole : Class) (classes : List Class)
    (p : Packet) (link : Link) : Type 0 where
  pub lower : (arc : Arc) → IsArc net arc → IsRouted net ends.to arc → arc.link < link.0 →
      (q : Packet) → IsOfClass whole q → ArcPermits net arc q
  pub class : Class
  pub is_first : IsFirstAfter (λ c. ¬ IsDeniedOn net ends.to c link.0) classes class
  pub denied : IsDeniedOn net ends.to class link.0
  pub packet : p ≡ first_packet class

-- for a reach policy: the first refusal; or the first class with a packet that does not enter or
-- does not leave; or paths in rising order of their first links; or the least cut
abbrev pub IsFixedReach : Network → Ends → Class → List Class → Verdict → Type 0
IsFixedReach net ends whole classes (Closed sides) = ⊥
IsFixedReach net ends whole classes (Walk class path) = ⊥
IsFixedReach net ends whole classes (Paths paths) = AreInLinkOrder (map (λ path. path.links) paths)
IsFixedReach net ends whole classes (Denied class) =
    IsFirstAfter (EachPasses net ends) classes class
IsFixedReach net ends whole classes (Cut links side) = IsLeastCut net ends whole links side
IsFixedReach net ends whole classes (Refused p link) = IsFirstRefusal net ends whole classes p link

-- the same for each kind of policy
abbrev pub IsFixedFor : Network → Ends → PolicyKind → Class → List Class → Verdict → Type 0
IsFixedFor net ends Blocked whole classes v = IsFixedBlocking net ends Blocked classes v
IsFixedFor net ends Through whole classes v = IsFixedBlocking net ends Through classes v
IsFixedFor net ends (Reach k) whole classes v = IsFixedReach net ends whole classes v

-- the verdict on one of the policies is the one that is given, where its classes are no more than
-- CLASS_LIMIT
pub record IsFixed (net : Network) (policies : List Policy) (policy : Policy)
    (v : Verdict) : Type 0 where
  pub ends : Ends
  pub are_ends : AreEnds net (subject policy) ends
  pub classes : List Class
  pub are_classes : AreClasses net policies policy classes
  pub few : length classes ≤ CLASS_LIMIT
  pub fixed : IsFixedFor net ends policy.kind (subject policy) classes v
