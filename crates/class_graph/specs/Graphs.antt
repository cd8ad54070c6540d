-- Graphs whose nodes are the routers of a network, and whose arcs are routed arcs of it.
use Rattle.std.specs.Prelude.{◌≡◌, ◌↔◌, Bool, IsTrue, IsFalse, length, Contains}
use Rattle.arc_base.specs.declared.prefix.Prefix.{Prefix}
use Rattle.graph_flow.specs.declared.arcs.Arc as shown
use Rattle.graph_flow.specs.Paths.{Digraph}
use Rattle.net_model.specs.declared.lists.Packet.{Packet}
use Rattle.net_model.specs.declared.policies.Class.{Class}
use Rattle.net_model.specs.declared.rows.Network.{Network}
use Rattle.net_model.specs.Packets.{IsOfClass}
use Rattle.net_model.specs.Routing.{Arc, IsArc, IsRouted, tail_router, head_router, cost}
use Rattle.net_model.specs.Forwarding.{Ends, AreEnds, Enters, Leaves, source_router, target_router}
use Rattle.net_model.specs.Forwarding.{ArcPermitsEach}
use Rattle.class_graph.specs.declared.modes.Mode.{Mode}
use Rattle.class_graph.specs.declared.modes.Mode.TheVariants.{Routed, Permitted}
use Rattle.class_graph.specs.declared.modes.Mode.TheVariants.{PermittedOffWaypoint}
use Rattle.class_graph.specs.declared.building.ClassGraph.{ClassGraph}

-- the graph's arc is the network's: over its link, from the router at its tail to that at its head,
-- at its cost
pub record Shows (net : Network) (arc : Arc) (a : shown.Arc) : Type 0 where
  pub link : a.link.0 ≡ arc.link
  pub tail : a.tail ≡ tail_router arc
  pub head : a.head ≡ head_router arc
  pub cost_is : a.cost ≡ cost net arc

-- the graph's arc is that of a routed arc of this property
pub record IsShown (net : Network) (to : Prefix) (P : Arc → Type 0) (a : shown.Arc) : Type 0 where
  pub arc : Arc
  pub is_arc : IsArc net arc
  pub routed : IsRouted net to arc
  pub fits : P arc
  pub shows : Shows net arc a

-- the graph has the routers of the network as its nodes, and exactly the routed arcs of this
-- property
pub record IsGraphOf (net : Network) (to : Prefix) (P : Arc → Type 0) (g : Digraph) : Type 0 where
  pub nodes : g.nodes ≡ length net.routers
  pub arcs : (a : shown.Arc) → Contains g.arcs a ↔ IsShown net to P a

-- each arc has this property
abbrev pub IsAnyArc : Arc → Type 0
IsAnyArc arc = Unit {0}

-- the mode takes an arc, by whether it permits packets and whether its link is a waypoint
abbrev pub MayUse : Mode → Type 0 → Bool → Type 0
MayUse Routed Permits waypoint = Unit {0}
MayUse Permitted Permits waypoint = Permits
MayUse PermittedOffWaypoint Permits waypoint = Permits × IsFalse waypoint

-- the arc is of the mode for the class: it is any arc, or permits the class, or permits it and is
-- not over a waypoint link
abbrev pub Fits : Mode → Network → Class → Arc → Type 0
Fits mode net class arc = MayUse mode (ArcPermitsEach net class arc) arc.row.waypoint

-- the graph of the class: its packets enter at the source and leave at the target if each of them
-- does, and its arcs are those of the mode
pub record IsClassGraph (net : Network) (ends : Ends) (class : Class) (mode : Mode)
    (graph : ClassGraph) : Type 0 where
  pub source : graph.source.0 ≡ source_router ends
  pub target : graph.target.0 ≡ target_router ends
  pub enters : IsTrue graph.enters ↔ ((p : Packet) → IsOfClass class p → Enters net ends p)
  pub leaves : IsTrue graph.leaves ↔ ((p : Packet) → IsOfClass class p → Leaves net ends p)
  pub arcs : IsGraphOf net ends.to (Fits mode net class) graph.graph

-- the same, for the ends of the class
pub record IsGraphOfClass (net : Network) (class : Class) (mode : Mode)
    (graph : ClassGraph) : Type 0 where
  pub ends : Ends
  pub are_ends : AreEnds net class ends
  pub is_graph : IsClassGraph net ends class mode graph
