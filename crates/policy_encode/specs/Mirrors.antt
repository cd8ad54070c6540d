-- A question whose arcs of conditions mirror the routed arcs of a network.
use Rattle.std.specs.Prelude.{◌≡◌, ℕ, ◌<◌, ◌↔◌, Bool, IsTrue, Some, List, length, map, Contains}
use Rattle.std.specs.Prelude.{slice_get}
use Rattle.graph_flow.specs.Paths.{IsGraph}
use Rattle.net_model.specs.declared.lists.Packet.{Packet}
use Rattle.net_model.specs.declared.policies.Class.{Class}
use Rattle.net_model.specs.declared.rows.Network.{Network}
use Rattle.net_model.specs.Packets.{IsOfClass}
use Rattle.net_model.specs.Routing.{Arc, IsArc, IsRouted, tail_router, head_router}
use Rattle.net_model.specs.Forwarding.{Ends, ArcPermits, Enters, Leaves, source_router}
use Rattle.net_model.specs.Forwarding.{target_router}
use Rattle.condition_formula.specs.declared.network.ConditionArc.{ConditionArc}
use Rattle.condition_formula.specs.declared.network.Question.{Question}
use Rattle.condition_formula.specs.Conditions.{comes_true, ends_of, is_routed, bare, IsClearArc}

-- the arc of conditions mirrors the network's: it is over its link and between its routers, and its
-- list conditions hold where its lists permit
pub record IsMirror (net : Network) (classes : List Class) (chosen : ℕ → Bool) (ca : ConditionArc)
    (arc : Arc) : Type 0 where
  pub link : ca.link.0 ≡ arc.link
  pub tail : ca.tail ≡ tail_router arc
  pub head : ca.head ≡ head_router arc
  pub waypoint : ca.waypoint ≡ arc.row.waypoint
  pub permits : (k : ℕ) (class : Class) → slice_get classes k ≡ Some class →
      (p : Packet) → IsOfClass class p → ArcPermits net arc p ↔ IsClearArc chosen k ca

-- the arc of conditions mirrors a routed arc
pub record HasMirror (net : Network) (ends : Ends) (classes : List Class) (chosen : ℕ → Bool)
    (ca : ConditionArc) : Type 0 where
  pub arc : Arc
  pub is_arc : IsArc net arc
  pub routed : IsRouted net ends.to arc
  pub is_mirror : IsMirror net classes chosen ca arc

-- a routed arc is in the question
pub record IsMirrored (net : Network) (classes : List Class) (chosen : ℕ → Bool) (q : Question)
    (arc : Arc) : Type 0 where
  pub ca : ConditionArc
  pub one : Contains q.arcs ca
  pub routed : IsTrue (is_routed chosen ca)
  pub is_mirror : IsMirror net classes chosen ca arc

-- the question mirrors the network between these ends, for these classes
pub record Mirrors (net : Network) (ends : Ends) (classes : List Class) (chosen : ℕ → Bool)
    (q : Question) : Type 0 where
  pub source : q.source ≡ source_router ends
  pub target : q.target ≡ target_router ends
  pub count : length q.classes ≡ length classes
  pub source_node : q.source < length net.routers
  pub target_node : q.target < length net.routers
  pub graph : IsGraph (record { nodes = length net.routers; arcs = map bare q.arcs })
  pub from_arc : (arc : Arc) → IsArc net arc → IsRouted net ends.to arc →
      IsMirrored net classes chosen q arc
  pub to_arc : (ca : ConditionArc) → Contains q.arcs ca → IsTrue (is_routed chosen ca) →
      HasMirror net ends classes chosen ca
  pub enter : (k : ℕ) (class : Class) → slice_get classes k ≡ Some class →
      (p : Packet) → IsOfClass class p → Enters net ends p ↔
      IsTrue (comes_true chosen (ends_of q k).enter)
  pub leave : (k : ℕ) (class : Class) → slice_get classes k ≡ Some class →
      (p : Packet) → IsOfClass class p → Leaves net ends p ↔
      IsTrue (comes_true chosen (ends_of q k).leave)
