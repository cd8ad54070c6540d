-- How a graph keeps its arcs: all of them in a list, and those of each node in a row.
use Rattle.std.specs.Prelude.{◌≡◌, ℕ, ◌<◌, ◌^◌, List, [], length, All, slice_index_or}
use Rattle.graph_flow.specs.declared.arcs.Arc.{Arc}
use Rattle.graph_flow.specs.declared.graph.Graph.TheInside.{Inside}
use Rattle.graph_flow.specs.Paths.{Digraph, IsGraph}
use Rattle.graph_flow.specs.Residual.{touching}

-- the graph that the fields mean
abbrev pub digraph_of : Inside → Digraph
digraph_of g = record { nodes = length g.rows.items; arcs = g.arcs.items }

-- each node's row holds the arcs that begin or end there, in the order of the list
abbrev pub AreRows : List Arc → List (List Arc) → Type 0
AreRows arcs rows =
    (node : ℕ) → node < length rows → slice_index_or rows node [] ≡ touching arcs node

-- the arcs make a graph, the rows are theirs, and their links are below the bound
pub record IsKept (g : Inside) : Type 0 where
  pub graph : IsGraph (digraph_of g)
  pub rows : AreRows g.arcs.items g.rows.items
  pub links : All (λ arc. arc.link.0 < g.links) g.arcs.items
  pub few : length g.rows.items < 2 ^ 32
