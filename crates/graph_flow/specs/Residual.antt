-- Where one more unit can go: the arcs of the residual network of a flow. Contracts of helpers cite
-- these.
use Rattle.std.specs.Prelude.{ℕ, ◌≡◌, ◌+◌, Contains, IsSome, ◌==◌, ◌&&◌, ◌||◌, Bool, if◌then◌else◌}
use Rattle.std.specs.Prelude.{List, slice_set, filter, filter_map, Option, Some, None, [], ◌∷◌}
use Rattle.std.specs.Prelude.{◌++◌, slice_index_or, not}
use Rattle.arc_base.specs.declared.place.Link.{Link}
use Rattle.graph_flow.specs.declared.arcs.Arc.{Arc}
use Rattle.graph_flow.specs.Paths.{IsArcPath}
use Rattle.arc_base.specs.Lists.{AreDistinct}
use Rattle.graph_flow.specs.Answers.{first_link}
use Rattle.graph_flow.specs.Flows.{Units, unit_at, leaving, IsFlow}

-- the same link in the other direction
abbrev pub reversed : Arc → Arc
reversed arc = record { link = arc.link; tail = arc.head; head = arc.tail; cost = arc.cost }

-- where the arc that carries over a link is the one with this head, its unit can be taken back
abbrev pub taken_back : Option Arc → Arc → Option Arc
taken_back None arc = Some arc
taken_back (Some used) arc = if used.head == arc.head then Some (reversed used) else None

-- the arc itself where its link carries nothing, and the arc turned round where it carries a unit
abbrev pub residual_of : Units → Arc → Option Arc
residual_of units arc = taken_back (unit_at units arc.link.0) arc

-- the arcs over which one more unit can go
abbrev pub residual : Units → List Arc → List Arc
residual units arcs = filter_map (residual_of units) arcs

-- what the link carries after one more unit went over an arc of it: the arc, or nothing if it
-- carried the opposite one
abbrev pub turned : Option Arc → Arc → Option Arc
turned None arc = Some arc
turned (Some used) arc = None

-- the flow after one more unit went over the arc
abbrev pub turn : Units → Arc → Units
turn units arc = slice_set units arc.link.0 (turned (unit_at units arc.link.0) arc)

-- the arc begins or ends at the node
abbrev pub touches : ℕ → Arc → Bool
touches node arc = (arc.tail == node) || (arc.head == node)

-- the arcs that begin or end at the node
abbrev pub touching : List Arc → ℕ → List Arc
touching arcs node = filter (touches node) arcs

-- the rows of all nodes after the arc was added to those of its two
abbrev pub with_arc : List (List Arc) → Arc → List (List Arc)
with_arc rows arc =
    let first = slice_set rows arc.tail (slice_index_or rows arc.tail [] ++ arc ∷ []) in
    slice_set first arc.head (slice_index_or first arc.head [] ++ arc ∷ [])

-- the flow after one more unit went over the arcs of the way, the last one first
abbrev pub sent : Units → List Arc → Units
sent units [] = units
sent units (arc ∷ way) = turn (sent units way) arc

-- whether a path of units whose first arc is given may go over the arc: from the first arc's tail
-- only the first arc itself
abbrev pub may_pass : Arc → Arc → Bool
may_pass first arc = not (arc.tail == first.tail) || (arc.link.0 == first.link.0)

-- the arc of the unit, if it leads from the node
abbrev pub leaving_arc : ℕ → Option Arc → Option Arc
leaving_arc node None = None
leaving_arc node (Some arc) = if arc.tail == node then Some arc else None

-- the arc of the unit, if the path may go over it
abbrev pub passed_by : Arc → Option Arc → Option Arc
passed_by first None = None
passed_by first (Some arc) = if may_pass first arc then Some arc else None

-- the arc, if its link carries a unit over it and the path may go over it
abbrev pub laden_arc : Option Arc → Arc → Arc → Option Arc
laden_arc None first arc = None
laden_arc (Some used) first arc =
    if (used.head == arc.head) && may_pass first arc then Some arc else None

abbrev pub unit_of : Units → Arc → Arc → Option Arc
unit_of units first arc = laden_arc (unit_at units arc.link.0) first arc

-- the arcs of units that the path may go over
abbrev pub passable : Units → Arc → List Arc
passable units first = filter_map (passed_by first) units

-- the units that are left without those over the links
abbrev pub cleared : Units → List Link → Units
cleared units [] = units
cleared units (link ∷ links) = cleared (slice_set units link.0 None) links

-- what is left of the units once a path that begins with the given arc was taken out
pub record TakesPath (arcs : List Arc) (first : Arc) (t : ℕ) (units : Units) (links : List Link)
    (rest : Units) : Type 0 where
  pub path : IsArcPath arcs first.tail links t
  pub begins : first_link links ≡ first.link.0
  pub different : AreDistinct links
  pub gone : unit_at rest first.link.0 ≡ None
  pub units_on : (link : Link) → Contains links link → IsSome (unit_at units link.0)
  pub rest_is : rest ≡ cleared units links
  pub flow : IsFlow arcs first.tail t (leaving rest first.tail) rest
  pub one_less : leaving rest first.tail + 1 ≡ leaving units first.tail
