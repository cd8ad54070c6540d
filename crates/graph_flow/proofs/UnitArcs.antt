-- The arcs of a graph that carry units, among which a path of units is found.
use Rattle.std.proofs.Common.{◌≡◌, ℕ, ◌<◌, true, false, ◌&&◌, List, filter_map, Contains, inl, inr, refl, sym, ap, ◌∙◌, Some, None, Option}
use Rattle.std.specs.Prelude.{◌==◌, if◌then◌else◌}
use Rattle.std.proofs.lemmas.Bool.{cases_Bool, eq-eqb, eqb-true, and_parts, and_from}
use Rattle.std.proofs.lemmas.List.Elements.{All-contains}
use Rattle.arc_base.specs.declared.place.Link.{Link}
use Rattle.graph_flow.specs.declared.arcs.Arc.{Arc}
use Rattle.graph_flow.specs.declared.search.Mark.{Mark}
use Rattle.graph_flow.specs.Flows.{Units, unit_at, leaving, IsFlow}
use Rattle.graph_flow.specs.Marks.{mark_at, is_seen, way_to, IsMarked, IsSpread}
use Rattle.graph_flow.specs.Paths.{Digraph, IsGraph, Joins, MayShare, Leads, IsArcPath, links_of}
use Rattle.graph_flow.specs.Residual.{may_pass, laden_arc, unit_of, passable}
use Rattle.graph_flow.proofs.Lists.{AllPairs-members}
use Rattle.graph_flow.proofs.Ways.{Path-over}
use Rattle.graph_flow.proofs.Turns.{OnArcs}
use Rattle.graph_flow.proofs.Residuals.{filter_map-member, filter_map-from}
use Rattle.graph_flow.proofs.Searches.{Seen}
use Rattle.graph_flow.proofs.Marked.{to-reached, leads-seen}
use Rattle.graph_flow.proofs.Extracts.{if-arc, no-arc, passable-unit, unit-passable, first-way}

-- what an arc that carries a unit is given as
pub record IsLadenArc (o : Option Arc) (first arc found : Arc) : Type 0 where
  pub used : Arc
  pub on : o ≡ Some used
  pub head : used.head ≡ arc.head
  pub may : may_pass first arc ≡ true
  pub same : arc ≡ found

pub laden-is : (o : Option Arc) (first arc found : Arc) → laden_arc o first arc ≡ Some found → IsLadenArc o first arc found
laden-is None first arc found e = absurd (no-arc found e)
laden-is (Some used) first arc found e =
    let parts = if-arc ((used.head == arc.head) && may_pass first arc) arc found e in
    let both = and_parts (used.head == arc.head) (may_pass first arc) parts.0 in
    record { used = used; on = refl; head = eqb-true used.head arc.head both.0; may = both.1; same = parts.1 }

-- the arcs of one link with one head are one
one-arc : (g : Digraph) (a b : Arc) → IsGraph g → Contains g.arcs a → Contains g.arcs b → a.link.0 ≡ b.link.0 → a.head ≡ b.head → a ≡ b
one-arc g a b graph m n number heads =
    let link_of : ℕ → Link = λ k. record { 0 = k } in
    let links : a.link ≡ b.link = ap link_of number in
    let joins_a : Joins g.nodes a = All-contains (Joins g.nodes) g.arcs a graph.joined m in
    let joins_b : Joins g.nodes b = All-contains (Joins g.nodes) g.arcs b graph.joined n in
    elim (AllPairs-members MayShare g.arcs a b graph.opposite m n) [
      | inl same ↦ same
      | inr related ↦ elim related [
        | inl forth ↦ absurd (joins_a.apart (forth.forth links ∙ sym heads))
        | inr back ↦ absurd (joins_b.apart (back.forth (sym links) ∙ heads))
      ]
    ]

-- the arcs that carry units are those that a path of units may go over
unit-out : (g : Digraph) (units : Units) (first : Arc) → IsGraph g → OnArcs g.arcs units → (arc : Arc) → Contains (filter_map (unit_of units first) g.arcs) arc →
    Contains (passable units first) arc
unit-out g units first graph on arc m =
    let from = filter_map-from (unit_of units first) g.arcs arc m in
    let is : IsLadenArc (unit_at units (from.0).link.0) first from.0 arc = laden-is (unit_at units (from.0).link.0) first from.0 arc from.2 in
    let one : is.used ≡ from.0 =
    one-arc g is.used from.0 graph (on.is_arc (from.0).link.0 is.used is.on) from.1 (on.of_link (from.0).link.0 is.used is.on) is.head in
    unit-passable units first arc (from.0).link.0 (is.on ∙ ap Some (one ∙ is.same)) (ap (λ (x : Arc). may_pass first x) (sym is.same) ∙ is.may)

unit-in : (g : Digraph) (units : Units) (first : Arc) → OnArcs g.arcs units → (arc : Arc) → Contains (passable units first) arc →
    Contains (filter_map (unit_of units first) g.arcs) arc
unit-in g units first on arc m =
    let found = passable-unit units first arc m in
    let at : unit_at units arc.link.0 ≡ Some arc = ap (λ (l : ℕ). unit_at units l) (on.of_link (found.0).0 arc (found.0).1) ∙ (found.0).1 in
    filter_map-member (unit_of units first) g.arcs arc arc (on.is_arc (found.0).0 arc (found.0).1)
    (ap (λ (o : Option Arc). laden_arc o first arc) at
    ∙ ap (λ b. if b then Some arc else None) (and_from (arc.head == arc.head) (may_pass first arc) (eq-eqb arc.head arc.head refl) found.1))

-- a search over them finds a path that begins with the first arc, if that leaves the source of a flow
pub found-units : (g : Digraph) (units : Units) (first : Arc) (t : ℕ) (marks : List Mark) (links : List Link) → IsGraph g → t < g.nodes →
    IsFlow g.arcs first.tail t (leaving units first.tail) units → unit_at units first.link.0 ≡ Some first →
    IsMarked (filter_map (unit_of units first) g.arcs) first.tail marks →
    (is_seen (mark_at marks t) ≡ false → IsSpread (filter_map (unit_of units first) g.arcs) first.tail marks) →
    links ≡ links_of (way_to marks t) → IsArcPath (passable units first) first.tail links t
found-units g units first t marks links graph target flow at marked spread is =
    let on : OnArcs g.arcs units = record { is_arc = flow.is_arc; of_link = flow.of_link } in
    let joins : Joins g.nodes first = All-contains (Joins g.nodes) g.arcs first graph.joined (flow.is_arc first.link.0 first at) in
    let way : Leads (passable units first) first.tail t = first-way g first.tail t units first graph joins.tail_node target flow at refl in
    let over : Leads (filter_map (unit_of units first) g.arcs) first.tail t =
    (way.0, Path-over (passable units first) (filter_map (unit_of units first) g.arcs) (unit-in g units first on) first.tail t way.0 way.1) in
    let seen : Seen marks t = elim (cases_Bool (is_seen (mark_at marks t))) [
      | inl to_t ↦ to_t
      | inr unseen ↦ leads-seen (filter_map (unit_of units first) g.arcs) first.tail marks (spread unseen) t over
    ] in
    let to = to-reached (filter_map (unit_of units first) g.arcs) first.tail marks marked t seen in
    record {
      way = way_to marks t;
      of_links = sym is;
      leads = Path-over (filter_map (unit_of units first) g.arcs) (passable units first) (unit-out g units first graph on) first.tail t (way_to marks t) to.leads;
      once = to.once;
    }
