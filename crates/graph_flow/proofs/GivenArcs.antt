-- How an arc over which a search goes comes from an arc of the graph.
use Rattle.std.proofs.Common.{◌≡◌, ◌<◌, true, List, Some, Contains, inl, inr, ◌⊎◌, sym, ap, ◌∙◌, subst}
use Rattle.std.specs.Prelude.{◌==◌}
use Rattle.std.proofs.lemmas.Bool.{eq-eqb}
use Rattle.std.proofs.lemmas.List.Elements.{All-contains}
use Rattle.graph_flow.specs.declared.arcs.Arc.{Arc}
use Rattle.graph_flow.specs.declared.searched_arcs.Ways.{Ways}
use Rattle.graph_flow.specs.declared.searched_arcs.Ways.TheVariants.{Room, Open, Units}
use Rattle.graph_flow.specs.Flows.{unit_at}
use Rattle.graph_flow.specs.Paths.{Digraph, IsGraph, Joins}
use Rattle.graph_flow.specs.Residual.{reversed, touching, touches}
use Rattle.graph_flow.specs.SearchedArcs.{gives, arcs_by, TakesBack, AreWays}
use Rattle.graph_flow.proofs.Lists.{filter-member}
use Rattle.graph_flow.proofs.Looks.{or-left, or-right}
use Rattle.graph_flow.proofs.OpenArcs.{open-is}
use Rattle.graph_flow.proofs.Residuals.{filter_map-from, back_cases}
use Rattle.graph_flow.proofs.UnitArcs.{laden-is}

-- it is that arc, or the unit over its link, turned round
from-arc : (ways : Ways) (base arc : Arc) → gives ways base ≡ Some arc →
    (base ≡ arc) ⊎ ((used : Arc) × TakesBack ways base.link.0 used × (used.head ≡ base.head) × (reversed used ≡ arc))
from-arc (Room carried) base arc e = elim (back_cases (unit_at carried.now base.link.0) base arc e) [
  | inl free ↦ inl free.1
  | inr back ↦ inr back
]
from-arc (Open table) base arc e = inl (open-is table.now base arc e).1
from-arc (Units units first) base arc e = inl (laden-is (unit_at units.now base.link.0) first base arc e).same

-- it comes from an arc of the row of its tail
pub tail-row : (arcs : List Arc) (ways : Ways) (arc : Arc) → Contains (arcs_by ways arcs) arc → (base : Arc) × Contains (touching arcs arc.tail) base × (gives ways base ≡ Some arc)
tail-row arcs ways arc m =
    let from = filter_map-from (gives ways) arcs arc m in
    let touched : touches arc.tail from.0 ≡ true = elim (from-arc ways from.0 arc from.2) [
      | inl same ↦ or-left ((from.0).tail == arc.tail) ((from.0).head == arc.tail) (eq-eqb (from.0).tail arc.tail (ap (λ (x : Arc). x.tail) same))
      | inr (used, on, same, turned_is) ↦ or-right ((from.0).tail == arc.tail) ((from.0).head == arc.tail) (eq-eqb (from.0).head arc.tail (sym same ∙ ap (λ (x : Arc). x.tail) turned_is))
    ] in
    (from.0, filter-member (touches arc.tail) arcs from.0 from.1 touched, from.2)

-- its head is a node
pub head-below : (g : Digraph) (ways : Ways) (arc : Arc) → IsGraph g → AreWays g.arcs ways → Contains (arcs_by ways g.arcs) arc → arc.head < g.nodes
head-below g ways arc is are m =
    let from = filter_map-from (gives ways) g.arcs arc m in
    elim (from-arc ways from.0 arc from.2) [
      | inl same ↦ let joins : Joins g.nodes from.0 = All-contains (Joins g.nodes) g.arcs from.0 is.joined from.1 in
          subst (λ (x : Arc). x.head < g.nodes) same joins.head_node
      | inr (used, on, same, turned_is) ↦ let joins : Joins g.nodes used = All-contains (Joins g.nodes) g.arcs used is.joined (are (from.0).link.0 used on) in
          subst (λ (x : Arc). x.head < g.nodes) turned_is joins.tail_node
    ]
