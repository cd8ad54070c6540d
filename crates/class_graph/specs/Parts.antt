-- The part of the graph of all routed arcs that is a class's, by a table with a row for each link.
use Rattle.std.specs.Prelude.{◌≡◌, ◌≢◌, ◌↔◌, ℕ, Bool, IsTrue, Some, List, length, slice_get}
use Rattle.graph_flow.specs.declared.arcs.OpenLink.{OpenLink}
use Rattle.graph_flow.specs.OpenLinks.{is_open_way, open_arcs}
use Rattle.graph_flow.specs.Paths.{Digraph}
use Rattle.net_model.specs.declared.rows.Network.{Network}
use Rattle.net_model.specs.Routing.{Arc, IsArc, tail_router, head_router}
use Rattle.class_graph.specs.declared.building.ClassGraph.{ClassGraph}
use Rattle.class_graph.specs.declared.modes.Mode.{Mode}
use Rattle.class_graph.specs.declared.parts.ClassPart.{ClassPart}
use Rattle.class_graph.specs.Building.{Answered}

-- if the arc joins two routers, the row opens it exactly where it is of the mode
abbrev pub Opens : Mode → List Bool → OpenLink → Arc → Type 0
Opens mode answers row arc =
    tail_router arc ≢ head_router arc →
    IsTrue (is_open_way row (tail_router arc) (head_router arc)) ↔ Answered mode answers arc

-- the row is so for the arcs of the link at this place
abbrev pub IsOpenAt : Network → Mode → List Bool → ℕ → OpenLink → Type 0
IsOpenAt net mode answers link row =
    (arc : Arc) → IsArc net arc → arc.link ≡ link → Opens mode answers row arc

-- the table has such a row for each link of the network, in order
pub record AreOpenLinks (net : Network) (mode : Mode) (answers : List Bool)
    (table : List OpenLink) : Type 0 where
  pub whole : length table ≡ length net.links
  pub each : (link : ℕ) (row : OpenLink) → slice_get table link ≡ Some row →
      IsOpenAt net mode answers link row

-- the class's graph: of the arcs those that are open
abbrev pub part_of : Digraph → ClassPart → ClassGraph
part_of g part = record {
  graph = record { nodes = g.nodes; arcs = open_arcs part.table g.arcs };
  source = part.source;
  target = part.target;
  enters = part.enters;
  leaves = part.leaves;
}
