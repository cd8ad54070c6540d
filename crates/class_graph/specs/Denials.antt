-- Links over which routed arcs deny packets.
use Rattle.std.specs.Prelude.{◌≡◌, ℕ, ◌<◌, Bool, Some, List, slice_get}
use Rattle.arc_base.specs.declared.prefix.Prefix.{Prefix}
use Rattle.net_model.specs.declared.lists.Packet.{Packet}
use Rattle.net_model.specs.declared.policies.Class.{Class}
use Rattle.net_model.specs.declared.rows.Network.{Network}
use Rattle.net_model.specs.Packets.{IsOfClass}
use Rattle.net_model.specs.Routing.{Arc, IsArc, IsRouted}
use Rattle.net_model.specs.Forwarding.{ArcPermits}
use Rattle.class_graph.specs.Answers.{ArcAllows}

-- a routed arc of the link denies the class: it permits no packet of it
pub record IsDeniedOn (net : Network) (to : Prefix) (class : Class) (link : ℕ) : Type 0 where
  pub arc : Arc
  pub is_arc : IsArc net arc
  pub routed : IsRouted net to arc
  pub of_link : arc.link ≡ link
  pub denied : (p : Packet) → IsOfClass class p → ¬ ArcPermits net arc p

-- no link does
abbrev pub IsDeniedNowhere : Network → Prefix → Class → Type 0
IsDeniedNowhere net to class = (link : ℕ) → ¬ IsDeniedOn net to class link

-- the first n classes are denied over no link
abbrev pub HasNoDenial : Network → Prefix → List Class → ℕ → Type 0
HasNoDenial net to classes n =
    (k : ℕ) (c : Class) → k < n → slice_get classes k ≡ Some c → IsDeniedNowhere net to c

-- it is the first link that does
pub record IsLeastDenied (net : Network) (to : Prefix) (class : Class) (link : ℕ) : Type 0 where
  pub denied : IsDeniedOn net to class link
  pub least : (lower : ℕ) → lower < link → ¬ IsDeniedOn net to class lower

-- a routed arc of the link does not permit the packets, where this is what lists answer
pub record IsDeniedBy (net : Network) (to : Prefix) (answers : List Bool) (link : ℕ) : Type 0 where
  pub arc : Arc
  pub is_arc : IsArc net arc
  pub routed : IsRouted net to arc
  pub of_link : arc.link ≡ link
  pub denied : ¬ ArcAllows answers arc

-- the arc in this direction is such an arc
pub record IsDeniedOver (net : Network) (to : Prefix) (answers : List Bool) (link : ℕ)
    (from_a : Bool) : Type 0 where
  pub denied_by : IsDeniedBy net to answers link
  pub direction : denied_by.arc.from_a ≡ from_a

-- it is the first such link
pub record IsLeastDeniedBy (net : Network) (to : Prefix) (answers : List Bool)
    (link : ℕ) : Type 0 where
  pub denied : IsDeniedBy net to answers link
  pub least : (lower : ℕ) → lower < link → ¬ IsDeniedBy net to answers lower
