-- The arcs that a search goes over, by those of a graph. Contracts of helpers cite these.
use Rattle.std.specs.Prelude.{◌≡◌, ℕ, Contains, List, filter_map, Option, Some}
use Rattle.graph_flow.specs.declared.arcs.Arc.{Arc}
use Rattle.graph_flow.specs.declared.searched_arcs.Ways.{Ways}
use Rattle.graph_flow.specs.declared.searched_arcs.Ways.TheVariants.{Room, Open, Units}
use Rattle.graph_flow.specs.Flows.{unit_at}
use Rattle.graph_flow.specs.OpenLinks.{open_of}
use Rattle.graph_flow.specs.Residual.{residual_of, unit_of}

-- the arc over which a search goes by way of an arc of the graph
abbrev pub gives : Ways → Arc → Option Arc
gives (Room carried) = residual_of carried.now
gives (Open table) = open_of table.now
gives (Units units first) = unit_of units.now first

-- the arcs over which it goes
abbrev pub arcs_by : Ways → List Arc → List Arc
arcs_by ways arcs = filter_map (gives ways) arcs

-- the arc carries a unit that the search can take back
abbrev pub TakesBack : Ways → ℕ → Arc → Type 0
TakesBack (Room carried) link arc = unit_at carried.now link ≡ Some arc
TakesBack (Open table) link arc = ⊥
TakesBack (Units units first) link arc = ⊥

-- each such arc is one of the graph's
abbrev pub AreWays : List Arc → Ways → Type 0
AreWays arcs ways = (link : ℕ) (arc : Arc) → TakesBack ways link arc → Contains arcs arc
