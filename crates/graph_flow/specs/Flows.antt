-- Flows of units over links, of which each carries at most one, in one of its directions.
use Rattle.std.specs.Prelude.{◌≡◌, ℕ, ◌+◌, ◌<◌, ◌≤◌, ◌==◌, Bool, false, if◌then◌else◌, List, length}
use Rattle.std.specs.Prelude.{sum_by, slice_index_or, All, Contains, Option, Some, None, filter_map}
use Rattle.std.specs.Prelude.{◌&&◌, not}
use Rattle.arc_base.specs.declared.place.Link.{Link}
use Rattle.graph_flow.specs.declared.arcs.Arc.{Arc}
use Rattle.graph_flow.specs.Paths.{Digraph}
use Rattle.graph_flow.specs.Sides.{IsLeastSide}

-- at the place of each link the arc of it that carries a unit, if there is one
abbrev pub Units : Type 0
Units = List (Option Arc)

-- the arc that carries a unit over the link, and none past the table's end
abbrev pub unit_at : Units → ℕ → Option Arc
unit_at units link = slice_index_or units link None

-- one unit where the arc leads from the node
abbrev pub unit_from : ℕ → Option Arc → ℕ
unit_from node None = 0
unit_from node (Some arc) = if arc.tail == node then 1 else 0

-- one unit where the arc leads to the node
abbrev pub unit_to : ℕ → Option Arc → ℕ
unit_to node None = 0
unit_to node (Some arc) = if arc.head == node then 1 else 0

-- how many units leave the node
abbrev pub leaving : Units → ℕ → ℕ
leaving units node = sum_by (unit_from node) units

-- how many units enter the node
abbrev pub entering : Units → ℕ → ℕ
entering units node = sum_by (unit_to node) units

-- this many at the one node, and nothing elsewhere
abbrev pub only_at : ℕ → ℕ → ℕ → ℕ
only_at many place node = if node == place then many else 0

-- each unit goes over an arc of its link, and at each node as many leave as enter, except that
-- `many` more leave the source and `many` more enter the target
pub record IsFlow (arcs : List Arc) (s t many : ℕ) (units : Units) : Type 0 where
  pub is_arc : (link : ℕ) (arc : Arc) → unit_at units link ≡ Some arc → Contains arcs arc
  pub of_link : (link : ℕ) (arc : Arc) → unit_at units link ≡ Some arc → arc.link.0 ≡ link
  pub balanced : (node : ℕ) →
      leaving units node + only_at many t node ≡ entering units node + only_at many s node

-- no flow from s to t has more units
abbrev pub IsGreatest : List Arc → ℕ → ℕ → ℕ → Type 0
IsGreatest arcs s t many = (units : Units) (more : ℕ) → IsFlow arcs s t more units → more ≤ many

-- what callers see of a flow: its units, and the nodes that the last search reached
pub record FlowState : Type 0 where
  pub units : Units
  pub reached : List Bool

-- the flow has a place for each node and each link of the graph
pub record IsMadeFor (g : Digraph) (flow : FlowState) : Type 0 where
  pub nodes : length flow.reached ≡ g.nodes
  pub links : All (λ arc. arc.link.0 < length flow.units) g.arcs

-- the set of the nodes whose flag is set
abbrev pub flagged : List Bool → ℕ → Bool
flagged flags node = slice_index_or flags node false

-- the link of the unit, if the unit leads out of the set
abbrev pub out_link : (ℕ → Bool) → Option Arc → Option Link
out_link side None = None
out_link side (Some arc) = if side arc.tail && not (side arc.head) then Some arc.link else None

-- the links over which units lead out of the set
abbrev pub links_out : Units → (ℕ → Bool) → List Link
links_out units side = filter_map (out_link side) units

-- the flagged nodes are the least side, and `many` units lead out of it, over as many links
pub record EndsAt (arcs : List Arc) (s t many : ℕ) (units : Units)
    (flags : List Bool) : Type 0 where
  pub least_side : IsLeastSide arcs s t (flagged flags) (links_out units (flagged flags))
  pub few : length (links_out units (flagged flags)) ≡ many

-- there is a flag for each end of the arc
pub record AreWithin (flags : List Bool) (arc : Arc) : Type 0 where
  pub tail : arc.tail < length flags
  pub head : arc.head < length flags
