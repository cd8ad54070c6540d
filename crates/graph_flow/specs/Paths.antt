-- Graphs as lists of arcs, paths over them, and paths that share no link.
use Rattle.std.specs.Prelude.{◌≡◌, ◌≢◌, ℕ, ◌<◌, List, [], ◌∷◌, length, map, All, AllPairs, Contains}
use Rattle.std.specs.List.{flat_map}
use Rattle.arc_base.specs.declared.place.Link.{Link}
use Rattle.arc_base.specs.Lists.{AreDistinct}
use Rattle.graph_flow.specs.declared.arcs.Arc.{Arc}

-- how many nodes there are, numbered from 0, and the arcs between them
pub record Digraph : Type 0 where
  pub nodes : ℕ
  pub arcs : List Arc

-- the arc leads from one of the nodes to another
pub record Joins (nodes : ℕ) (arc : Arc) : Type 0 where
  pub tail_node : arc.tail < nodes
  pub head_node : arc.head < nodes
  pub apart : arc.tail ≢ arc.head

-- if the two are arcs of one link, each leads where the other comes from
pub record MayShare (a b : Arc) : Type 0 where
  pub forth : a.link ≡ b.link → a.tail ≡ b.head
  pub back : a.link ≡ b.link → a.head ≡ b.tail

-- the arcs join nodes, and a link has at most two of them, one in each direction
pub record IsGraph (g : Digraph) : Type 0 where
  pub joined : All (Joins g.nodes) g.arcs
  pub opposite : AllPairs MayShare g.arcs

-- the way is made of the arcs and leads from u to v, each arc beginning where the one before ends
abbrev pub ArcPath : List Arc → ℕ → List Arc → ℕ → Type 0
ArcPath arcs u [] v = u ≡ v
ArcPath arcs u (arc ∷ way) v = Contains arcs arc × (arc.tail ≡ u) × ArcPath arcs arc.head way v

-- some path leads from u to v
abbrev pub Leads : List Arc → ℕ → ℕ → Type 0
Leads arcs u v = (way : List Arc) × ArcPath arcs u way v

-- the links of the way
abbrev pub links_of : List Arc → List Link
links_of way = map (λ arc. arc.link) way

-- the nodes that the way passes, from its first one u
abbrev pub nodes_of : ℕ → List Arc → List ℕ
nodes_of u way = u ∷ map (λ arc. arc.head) way

-- the links are those of a path from u to v that passes no node twice
pub record IsArcPath (arcs : List Arc) (u : ℕ) (links : List Link) (v : ℕ) : Type 0 where
  pub way : List Arc
  pub of_links : links_of way ≡ links
  pub leads : ArcPath arcs u way v
  pub once : AreDistinct (nodes_of u way)

-- the links of all the paths, one path after the other
abbrev pub links_of_paths : List (List Link) → List Link
links_of_paths paths = flat_map (λ path. path) paths

-- `many` paths from s to t that pass no node twice, and no link occurs in two of them, nor twice in
-- one
pub record AreDisjointPaths (arcs : List Arc) (s t many : ℕ)
    (paths : List (List Link)) : Type 0 where
  pub count : length paths ≡ many
  pub each : All (λ path. IsArcPath arcs s path t) paths
  pub disjoint : AreDistinct (links_of_paths paths)
