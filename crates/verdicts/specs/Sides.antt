-- What the packets of a class reach: the routers to which arcs of its graph lead from where they
-- enter.
use Rattle.std.specs.Prelude.{◌≡◌, ℕ, ◌<◌, ◌↔◌, IsTrue, IsSome, Option, Some, None, List, length}
use Rattle.std.specs.Prelude.{slice_index_or}
use Rattle.arc_base.specs.declared.place.Link.{Link}
use Rattle.graph_flow.specs.Paths.{Leads, IsArcPath}
use Rattle.class_graph.specs.declared.building.ClassGraph.{ClassGraph}

-- for each router the links of a path by which packets get there, or none: the routers that arcs
-- lead to from the source, if packets enter
pub record IsReached (graph : ClassGraph) (reached : List (Option (List Link))) : Type 0 where
  pub room : length reached ≡ graph.graph.nodes
  pub led : (node : ℕ) → node < graph.graph.nodes →
      IsSome (slice_index_or reached node None) ↔
      (IsTrue graph.enters × Leads graph.graph.arcs graph.source.0 node)
  pub paths : (node : ℕ) (links : List Link) → slice_index_or reached node None ≡ Some links →
      IsTrue graph.enters × IsArcPath graph.graph.arcs graph.source.0 links node
