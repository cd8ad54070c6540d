-- What holds of every graph, whatever program looks at it.
use Rattle.std.specs.Prelude.{◌≡◌, ◌≢◌, ◌⊎◌, ◌↔◌, ℕ, ◌<◌, Bool, List, length, Contains}
use Rattle.arc_base.specs.declared.place.Link.{Link}
use Rattle.graph_flow.specs.declared.arcs.Arc.{Arc}
use Rattle.graph_flow.specs.Paths.{Digraph, IsGraph, Leads, AreDisjointPaths}
use Rattle.graph_flow.specs.Sides.{Separates, AreLeftOver, IsLeastSide}

-- this many link-disjoint paths lead from s to t
abbrev pub HavePaths : List Arc → ℕ → ℕ → ℕ → Type 0
HavePaths arcs s t want = (paths : List (List Link)) × AreDisjointPaths arcs s t want paths

-- a set of nodes with s and without t is left by arcs of so few links
pub record HaveSmallCut (arcs : List Arc) (s t want : ℕ) : Type 0 where
  pub side : ℕ → Bool
  pub links : List Link
  pub separates : Separates s t side
  pub left_over : AreLeftOver arcs side links
  pub few : length links < want

-- there are that many link-disjoint paths or there is a smaller cut
abbrev pub PathsOrCut : Type 0
PathsOrCut = (g : Digraph) → IsGraph g → (s t want : ℕ) → s < g.nodes → t < g.nodes → s ≢ t →
    HavePaths g.arcs s t want ⊎ HaveSmallCut g.arcs s t want

-- and not both
abbrev pub NotBoth : Type 0
NotBoth = (g : Digraph) → IsGraph g → (s t want : ℕ) → s < g.nodes → t < g.nodes → s ≢ t →
    HavePaths g.arcs s t want → HaveSmallCut g.arcs s t want → ⊥

-- the nodes to which a path leads are those of a list
abbrev pub ReachedAreListed : Type 0
ReachedAreListed =
    (arcs : List Arc) (s : ℕ) →
    (nodes : List ℕ) × ((node : ℕ) → Leads arcs s node ↔ Contains nodes node)

-- between two nodes there is one least side
abbrev pub HasOneLeastSide : Type 0
HasOneLeastSide =
    (arcs : List Arc) (s t : ℕ) (side other : ℕ → Bool) (links others : List Link) →
    IsLeastSide arcs s t side links → IsLeastSide arcs s t other others →
    (node : ℕ) → side node ≡ other node
