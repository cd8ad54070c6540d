-- The arcs of a network in the order in which they are added to a graph: by link, and for each link
-- first that from its end a.
use Rattle.std.specs.Prelude.{◌≡◌, ◌↔◌, ℕ, ◌+◌, ◌<◌, Bool, if◌then◌else◌, List, length, Contains}
use Rattle.arc_base.specs.declared.prefix.Prefix.{Prefix}
use Rattle.graph_flow.specs.declared.arcs.Arc as shown
use Rattle.graph_flow.specs.Paths.{Digraph}
use Rattle.net_model.specs.declared.rows.FaceRow.{FaceRow}
use Rattle.net_model.specs.declared.rows.Network.{Network}
use Rattle.net_model.specs.declared.rows.Protocol.{Protocol}
use Rattle.net_model.specs.declared.rows.Protocol.TheVariants.{Ospf, Bgp}
use Rattle.net_model.specs.declared.tables.RoutedLink.{RoutedLink}
use Rattle.net_model.specs.Routing.{Arc, IsArc, IsRouted}
use Rattle.class_graph.specs.declared.modes.Mode.{Mode}
use Rattle.class_graph.specs.Answers.{ArcAllows}
use Rattle.class_graph.specs.Graphs.{Shows, MayUse}

-- the arc is of the mode, where this is what lists answer
abbrev pub Answered : Mode → List Bool → Arc → Type 0
Answered mode answers arc = MayUse mode (ArcAllows answers arc) arc.row.waypoint

-- whether the arc in this direction is routed
abbrev pub flag : RoutedLink → Bool → Bool
flag flags from_a = if from_a then flags.from_a else flags.from_b

-- what an arc costs that begins at the interface
abbrev pub cost_from : Protocol → FaceRow → ℕ
cost_from Ospf tail = tail.cost
cost_from Bgp tail = 1

-- the place of the link's arc among all arcs
abbrev pub number : ℕ → Bool → ℕ
number link from_a = link + link + (if from_a then 0 else 1)

-- the arc of this link in this direction is routed, and has this property
pub record IsTaken (net : Network) (to : Prefix) (P : Arc → Type 0) (link : ℕ) (from_a : Bool)
    (arc : Arc) : Type 0 where
  pub is_arc : IsArc net arc
  pub routed : IsRouted net to arc
  pub fits : P arc
  pub of_link : arc.link ≡ link
  pub direction : arc.from_a ≡ from_a

-- the graph's arc is that one
pub record IsArcOver (net : Network) (to : Prefix) (P : Arc → Type 0) (link : ℕ) (from_a : Bool)
    (a : shown.Arc) : Type 0 where
  pub arc : Arc
  pub taken : IsTaken net to P link from_a arc
  pub shows : Shows net arc a

-- there is none
abbrev pub IsNoArcOver : Network → Prefix → (Arc → Type 0) → ℕ → Bool → Type 0
IsNoArcOver net to P link from_a = (arc : Arc) → ¬ IsTaken net to P link from_a arc

-- the graph's arc is that of a routed arc of this property, whose place is below the number
pub record IsShownBelow (net : Network) (to : Prefix) (P : Arc → Type 0) (n : ℕ)
    (a : shown.Arc) : Type 0 where
  pub arc : Arc
  pub is_arc : IsArc net arc
  pub routed : IsRouted net to arc
  pub fits : P arc
  pub shows : Shows net arc a
  pub below : number arc.link arc.from_a < n

-- the graph has exactly these arcs
pub record IsGraphBelow (net : Network) (to : Prefix) (P : Arc → Type 0) (n : ℕ)
    (g : Digraph) : Type 0 where
  pub nodes : g.nodes ≡ length net.routers
  pub arcs : (a : shown.Arc) → Contains g.arcs a ↔ IsShownBelow net to P n a
