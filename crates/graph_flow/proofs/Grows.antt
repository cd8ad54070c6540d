-- What a search of the residual network says of a flow: it is greatest, or where one more unit goes.
use Rattle.std.proofs.Common.{◌≡◌, ◌≢◌, ℕ, ◌+◌, ◌<◌, ◌≤◌, false, IsFalse, List, length, map, All, inl, inr, refl, sym, ap, ◌∙◌, subst, arith, if◌then◌else◌}
use Rattle.std.proofs.lemmas.Bool.{cases_lt, ne_eqb, eq-eqb}
use Rattle.std.proofs.lemmas.List.{get_or_past, get_or-map, length-map}
use Rattle.std.proofs.lemmas.List.Elements.{All-contains}
use Rattle.arc_base.specs.declared.place.Link.{Link}
use Rattle.graph_flow.specs.declared.arcs.Arc.{Arc}
use Rattle.graph_flow.specs.declared.search.Mark.{Mark}
use Rattle.graph_flow.specs.declared.search.Mark.TheVariants.{Unseen, After}
use Rattle.graph_flow.specs.Paths.{Digraph, IsGraph}
use Rattle.graph_flow.specs.Sides.{Separates}
use Rattle.graph_flow.specs.Flows.{Units, leaving, entering, only_at, flagged, links_out, IsFlow, IsGreatest, EndsAt}
use Rattle.graph_flow.specs.Residual.{residual, sent}
use Rattle.graph_flow.specs.Marks.{is_seen, depth_of, mark_at, way_to, IsMarked, IsSpread}
use Rattle.graph_flow.proofs.Turns.{OnArcs}
use Rattle.graph_flow.proofs.Residuals.{LiesOn, residual-lies, augmented, source_kept}
use Rattle.graph_flow.proofs.Cuts.{Closed, cut-length, least_side, greatest}
use Rattle.graph_flow.proofs.Searches.{Seen}
use Rattle.graph_flow.proofs.Marked.{Reached, to-reached, seen-leads}

-- the flag of a node is whether it was seen
pub flag-seen : (marks : List Mark) (node : ℕ) → flagged (map is_seen marks) node ≡ is_seen (mark_at marks node)
flag-seen marks node =
    elim (cases_lt node (length marks)) [
      | inl l ↦ get_or-map is_seen marks node Unseen false l
      | inr past ↦
          let out : length (map is_seen marks) ≤ node = omega (arith, length-map marks is_seen) in
          get_or_past (map is_seen marks) node false out ∙ sym (ap is_seen (get_or_past marks node Unseen past))
    ]

only-none : (many place node : ℕ) → (node ≡ place → ⊥) → only_at many place node ≡ 0
only-none many place node ne = ap (λ b. if b then many else 0) (ne_eqb node place ne)

only-all : (many place : ℕ) → only_at many place place ≡ many
only-all many place = ap (λ b. if b then many else 0) (eq-eqb place place refl)

-- a flow of as many units as leave the source has none that enters it
pub none-enters : (arcs : List Arc) (s t : ℕ) (units : Units) → s ≢ t → IsFlow arcs s t (leaving units s) units → entering units s ≡ 0
none-enters arcs s t units apart flow =
    omega (arith, flow.balanced s, only-none (leaving units s) t s apart, only-all (leaving units s) s)

-- and where none enters the source, as many leave it as the flow has
pub value-leaves : (arcs : List Arc) (s t many : ℕ) (units : Units) → s ≢ t → IsFlow arcs s t many units → entering units s ≡ 0 → leaving units s ≡ many
value-leaves arcs s t many units apart flow none =
    omega (arith, flow.balanced s, only-none many t s apart, only-all many s, none)

module _ (g : Digraph) (s t : ℕ) (units : Units) (marks : List Mark) (is : IsGraph g) (ls : s < g.nodes) (lt : t < g.nodes)
    (flow : IsFlow g.arcs s t (leaving units s) units) where
  module _ (spread : IsSpread (residual units g.arcs) s marks) where
    sides : IsFalse (is_seen (mark_at marks t)) → Separates s t (flagged (map is_seen marks))
    sides unseen = record { source = flag-seen marks s ∙ ap is_seen spread.marked.start; target = flag-seen marks t ∙ unseen }

    closed : Closed g.arcs units (flagged (map is_seen marks))
    closed arc m inside = flag-seen marks arc.head ∙ spread.closed arc m (sym (flag-seen marks arc.tail) ∙ inside)

    -- where the target is not reached, the reached nodes are the least side
    pub ends-at : IsFalse (is_seen (mark_at marks t)) → EndsAt g.arcs s t (leaving units s) units (map is_seen marks)
    ends-at unseen = record {
      least_side = least_side g s t (leaving units s) (flagged (map is_seen marks)) units is ls lt (sides unseen) flow closed
          (λ node on. seen-leads (residual units g.arcs) s marks spread node (sym (flag-seen marks node) ∙ on));
      few = cut-length g s t (leaving units s) (flagged (map is_seen marks)) units is ls lt (sides unseen) flow closed;
    }

    pub no-more : IsFalse (is_seen (mark_at marks t)) → IsGreatest g.arcs s t (leaving units s)
    no-more unseen =
        let e : EndsAt g.arcs s t (leaving units s) units (map is_seen marks) = ends-at unseen in
        greatest g s t (leaving units s) (flagged (map is_seen marks)) (links_out units (flagged (map is_seen marks))) is ls lt (sides unseen) e.least_side.left_over e.few

  -- where it is reached, one more unit goes there
  module _ (marked : IsMarked (residual units g.arcs) s marks) (apart : s ≢ t) (room : All (λ arc. arc.link.0 < length units) g.arcs) (seen : Seen marks t) where
    pub one-more : IsFlow g.arcs s t (leaving units s + 1) (sent units (way_to marks t))
    one-more =
        let r : Reached (residual units g.arcs) s marks t (depth_of (mark_at marks t)) = to-reached (residual units g.arcs) s marks marked t seen in
        augmented g units s t (leaving units s) is flow room (way_to marks t) r.leads r.once

    pub more-leave : leaving (sent units (way_to marks t)) s ≡ leaving units s + 1
    more-leave =
        let r : Reached (residual units g.arcs) s marks t (depth_of (mark_at marks t)) = to-reached (residual units g.arcs) s marks marked t seen in
        let few : entering (sent units (way_to marks t)) s ≤ entering units s = source_kept g units s t (leaving units s) is flow room (way_to marks t) r.leads r.once in
        value-leaves g.arcs s t (leaving units s + 1) (sent units (way_to marks t)) apart one-more (omega (arith, few, none-enters g.arcs s t units apart flow))

    pub grown-flow : IsFlow g.arcs s t (leaving (sent units (way_to marks t)) s) (sent units (way_to marks t))
    grown-flow = subst (λ (n : ℕ). IsFlow g.arcs s t n (sent units (way_to marks t))) (sym more-leave) one-more

    pub not-greatest : IsGreatest g.arcs s t (leaving units s) → ⊥
    not-greatest most = let more : leaving units s + 1 ≤ leaving units s = most (sent units (way_to marks t)) (leaving units s + 1) one-more in omega (arith, more)

-- the links of the arcs by which nodes were reached have places
pub marked-place : (g : Digraph) (s : ℕ) (units : Units) (marks : List Mark) → OnArcs g.arcs units → IsMarked (residual units g.arcs) s marks → All (λ arc. arc.link.0 < length units) g.arcs →
    (node : ℕ) (arc : Arc) (depth : ℕ) → mark_at marks node ≡ After arc depth → arc.link.0 < length units
marked-place g s units marks on marked room node arc depth e =
    let lies : LiesOn g.arcs arc = residual-lies g.arcs units arc on (marked.over node arc depth e) in
    subst (λ (k : Link). k.0 < length units) lies.of_link (All-contains (λ a. a.link.0 < length units) g.arcs lies.base room lies.is_base)
