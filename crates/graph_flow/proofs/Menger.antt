-- The theorem of Menger for links, by flows that grow as long as the residual network leads to the target.
use Rattle.std.proofs.Common.{◌≡◌, ◌≢◌, ℕ, zero, suc, ◌+◌, ◌<◌, ◌≤◌, Bool, true, false, IsTrue, IsFalse, List, [], ◌∷◌}
use Rattle.std.proofs.Common.{length, map, replicate, All, Contains, inl, inr, ◌⊎◌, refl, sym, ap, subst, arith, None, Option, filter}
use Rattle.std.specs.Prelude.{◌==◌}
use Rattle.std.proofs.lemmas.Bool.{cases_lt, cases_Bool}
use Rattle.std.proofs.lemmas.List.{get_or_past, get_or-replicate, length-replicate}
use Rattle.std.proofs.lemmas.List.Elements.{All-contains, All-head, All-tail, filter_passes, Contains-append_left, Contains-append_right}
use Rattle.arc_base.specs.declared.place.Link.{Link}
use Rattle.graph_flow.specs.declared.arcs.Arc.{Arc}
use Rattle.graph_flow.specs.Paths.{ArcPath, Leads, Digraph, IsGraph, links_of, links_of_paths, IsArcPath, AreDisjointPaths}
use Rattle.arc_base.specs.Lists.{AreDistinct}
use Rattle.graph_flow.specs.Sides.{Separates, LeadsOut}
use Rattle.graph_flow.specs.Flows.{Units, unit_at, unit_from, unit_to, leaving, entering, IsFlow, links_out}
use Rattle.graph_flow.specs.Residual.{residual, sent}
use Rattle.graph_flow.specs.Laws.{HaveSmallCut, PathsOrCut, NotBoth, ReachedAreListed}
use Rattle.graph_flow.proofs.Lists.{Contains-here, Contains-there, Contains-none, Contains-cases, AllPairs-right, AllPairs-across, All-from_members, without, Without, filter-member}
use Rattle.graph_flow.proofs.Ways.{leads, leads-start, leads-closed, way_from_leads, leads_from_way, simple_way, Simple, head_on_way}
use Rattle.graph_flow.proofs.Turns.{OnArcs, length-sent}
use Rattle.graph_flow.proofs.Sums.{zero_either}
use Rattle.graph_flow.proofs.Residuals.{augmented}
use Rattle.graph_flow.proofs.Cuts.{is-none, both, sum-none, cut-left_over, cut-length, Closed}
use Rattle.graph_flow.proofs.Takes.{Decomposed, decomposed}

-- a number above that of each link
above : List Arc → ℕ
above [] = 0
above (arc ∷ arcs) = (arc.link.0 + 1) + above arcs

below-above : (arcs : List Arc) (arc : Arc) → Contains arcs arc → arc.link.0 < above arcs
unfolding above
below-above [] arc m = absurd (Contains-none arc m)
below-above (a ∷ arcs) arc m =
    elim (Contains-cases a arcs arc m) [
      | inl e ↦ omega (arith, ap (λ (x : Arc). x.link.0) e)
      | inr n ↦ omega (arith, below-above arcs arc n)
    ]

-- no link carries a unit
pub no_units : (n link : ℕ) → unit_at (replicate n None) link ≡ None
no_units n link =
    let none : Option Arc = None in
    elim (cases_lt link n) [
      | inl l ↦ get_or-replicate n link none none l
      | inr past ↦ get_or_past (replicate n none) link none (omega (arith, length-replicate n none))
    ]

pub nothing_flows : (arcs : List Arc) (units : Units) → ((link : ℕ) → unit_at units link ≡ None) → (s t : ℕ) → IsFlow arcs s t 0 units
nothing_flows arcs units none s t = record {
  is_arc = λ link arc e. absurd (is-none arc (unit_at units link) (none link) e);
  of_link = λ link arc e. absurd (is-none arc (unit_at units link) (none link) e);
  balanced = λ node.
      let out : leaving units node ≡ 0 = sum-none (unit_from node) refl units (λ l arc e. absurd (is-none arc (unit_at units l) (none l) e)) in
      let into : entering units node ≡ 0 = sum-none (unit_to node) refl units (λ l arc e. absurd (is-none arc (unit_at units l) (none l) e)) in
      omega (arith, out, into, zero_either (node == t), zero_either (node == s));
}

-- a flow of so many units, with a place for each link
record Grown (arcs : List Arc) (s t many : ℕ) : Type 0 where
  units : Units
  flow : IsFlow arcs s t many units
  room : All (λ (arc : Arc). arc.link.0 < length units) arcs

grown : (g : Digraph) (s t : ℕ) → IsGraph g → s < g.nodes → t < g.nodes → (want : ℕ) → Grown g.arcs s t want ⊎ HaveSmallCut g.arcs s t want
grown g s t is ls lt zero =
    let none : Option Arc = None in
    inl (record {
      units = replicate (above g.arcs) none;
      flow = nothing_flows g.arcs (replicate (above g.arcs) none) (no_units (above g.arcs)) s t;
      room = All-from_members (λ (arc : Arc). arc.link.0 < length (replicate (above g.arcs) none)) g.arcs
          (λ arc m. subst (λ (n : ℕ). arc.link.0 < n) (sym (length-replicate (above g.arcs) none)) (below-above g.arcs arc m));
    })
grown g s t is ls lt (suc want) =
    elim (grown g s t is ls lt want) [
      | inl have ↦
          let over : Digraph = record { nodes = g.nodes; arcs = residual have.units g.arcs } in
          elim (cases_Bool (leads over.arcs s t)) [
            | inl to ↦
                let w = way_from_leads over.arcs s t to in
                let one : Simple over.arcs s t = simple_way over.arcs s t w.0 w.1 in
                let more : IsFlow g.arcs s t (want + 1) (sent have.units one.way) = augmented g have.units s t want is have.flow have.room one.way one.leads one.once in
                inl (record {
                  units = sent have.units one.way;
                  flow = subst (λ (n : ℕ). IsFlow g.arcs s t n (sent have.units one.way)) (omega arith) more;
                  room = subst (λ (n : ℕ). All (λ (arc : Arc). arc.link.0 < n) g.arcs) (sym (length-sent have.units one.way)) have.room;
                })
            | inr cut ↦
                let sep : Separates s t (leads over.arcs s) = record { source = leads-start over.arcs s; target = cut } in
                let on : OnArcs g.arcs have.units = record { is_arc = have.flow.is_arc; of_link = have.flow.of_link } in
                let closed : Closed g.arcs have.units (leads over.arcs s) = leads-closed over.arcs s in
                let size : length (links_out have.units (leads over.arcs s)) ≡ want = cut-length g s t want (leads over.arcs s) have.units is ls lt sep have.flow closed in
                inr (record {
                  side = leads over.arcs s;
                  links = links_out have.units (leads over.arcs s);
                  separates = sep;
                  left_over = cut-left_over g have.units (leads over.arcs s) is on closed;
                  few = omega (arith, size);
                })
          ]
      | inr cut ↦ inr (record { side = cut.side; links = cut.links; separates = cut.separates; left_over = cut.left_over; few = omega (arith, cut.few) })
    ]

pub paths_or_cut : PathsOrCut
paths_or_cut g is s t want ls lt apart =
    elim (grown g s t is ls lt want) [
      | inl have ↦ let d : Decomposed g.arcs s t want have.units = decomposed g s t is ls lt want have.units have.flow in inl (d.paths, d.right)
      | inr cut ↦ inr cut
    ]

-- a way out of a set goes over an arc that leads out of it
crosses : (arcs : List Arc) (side : ℕ → Bool) (u v : ℕ) (way : List Arc) → ArcPath arcs u way v → IsTrue (side u) → IsFalse (side v) →
    (arc : Arc) × Contains arcs arc × Contains (links_of way) arc.link × LeadsOut side arc
crosses arcs side u v [] p inside outside = absurd (both (side u) inside (subst (λ (n : ℕ). side n ≡ false) (sym p) outside))
crosses arcs side u v (a ∷ way) p inside outside =
    elim (cases_Bool (side a.head)) [
      | inl t ↦ let r = crosses arcs side a.head v way p.2 t outside in (r.0, r.1, Contains-there a.link (links_of way) (r.0).link r.2, r.3)
      | inr f ↦ (a, p.0, Contains-here a.link (links_of way), record { from_inside = subst (λ (n : ℕ). side n ≡ true) (sym p.1) inside; to_outside = f })
    ]

in_all_links : (paths : List (List Link)) (path : List Link) (k : Link) → Contains paths path → Contains path k → Contains (links_of_paths paths) k
in_all_links [] path k m n = absurd (Contains-none path m)
in_all_links (p ∷ paths) path k m n =
    elim (Contains-cases p paths path m) [
      | inl e ↦ Contains-append_left p (links_of_paths paths) k (subst (λ (q : List Link). Contains q k) (sym e) n)
      | inr rest ↦ Contains-append_right p (links_of_paths paths) k (in_all_links paths path k rest n)
    ]

-- paths that share no link, each with a link of a list, are no more than its links
hit : (paths : List (List Link)) (links : List Link) → All (λ (path : List Link). (k : Link) × Contains path k × Contains links k) paths → AreDistinct (links_of_paths paths) →
    length paths ≤ length links
hit [] links each d = omega arith
hit (path ∷ paths) links each d =
    let k = All-head (λ (p : List Link). (k : Link) × Contains p k × Contains links k) path paths each in
    let less : Without links k.0 = without links k.0 k.2 in
    let rest : length paths ≤ length less.rest = hit paths less.rest
    (All-from_members (λ (p : List Link). (j : Link) × Contains p j × Contains less.rest j) paths (λ p m.
    let j = All-contains (λ (q : List Link). (j : Link) × Contains q j × Contains links j) paths p (All-tail (λ (q : List Link). (k : Link) × Contains q k × Contains links k) path paths each) m in
    (j.0, j.1, less.others j.0 j.2 (AllPairs-across (λ (a b : Link). a ≢ b) path (links_of_paths paths) k.0 j.0 d k.1 (in_all_links paths p j.0 m j.1)))))
    (AllPairs-right (λ (a b : Link). a ≢ b) path (links_of_paths paths) d) in
    omega (arith, rest, less.shorter)

pub not_both : NotBoth
not_both g is s t want ls lt apart have cut =
    let paths : AreDisjointPaths g.arcs s t want have.0 = have.1 in
    let few : length have.0 ≤ length cut.links = hit have.0 cut.links
    (All-from_members (λ (path : List Link). (k : Link) × Contains path k × Contains cut.links k) have.0 (λ path m.
    let is_path : IsArcPath g.arcs s path t = All-contains (λ p. IsArcPath g.arcs s p t) have.0 path paths.each m in
    let c = crosses g.arcs cut.side s t is_path.way is_path.leads cut.separates.source cut.separates.target in
    ((c.0).link, subst (λ (ks : List Link). Contains ks (c.0).link) is_path.of_links c.2, cut.left_over.each c.0 c.1 c.3)))
    paths.disjoint in
    omega (arith, few, paths.count, cut.few)

-- a way ends where it begins or at the head of an arc
ends_at_head : (arcs : List Arc) (u v : ℕ) (way : List Arc) → ArcPath arcs u way v → (u ≡ v) ⊎ Contains (map (λ (arc : Arc). arc.head) arcs) v
ends_at_head arcs u v [] p = inl p
ends_at_head arcs u v (a ∷ way) p =
    elim (ends_at_head arcs a.head v way p.2) [
      | inl e ↦ inr (subst (λ (n : ℕ). Contains (map (λ (arc : Arc). arc.head) arcs) n) e (head_on_way arcs a p.0))
      | inr m ↦ inr m
    ]

abbrev listed : List Arc → ℕ → List ℕ
listed arcs s = s ∷ filter (leads arcs s) (map (λ (arc : Arc). arc.head) arcs)

to : (arcs : List Arc) (s node : ℕ) → Leads arcs s node → Contains (listed arcs s) node
to arcs s node w =
    elim (ends_at_head arcs s node w.0 w.1) [
      | inl e ↦ subst (λ (n : ℕ). Contains (listed arcs s) n) e (Contains-here s (filter (leads arcs s) (map (λ (arc : Arc). arc.head) arcs)))
      | inr m ↦ Contains-there s (filter (leads arcs s) (map (λ (arc : Arc). arc.head) arcs)) node
          (filter-member (leads arcs s) (map (λ (arc : Arc). arc.head) arcs) node m (leads_from_way arcs s node w))
    ]

from : (arcs : List Arc) (s node : ℕ) → Contains (listed arcs s) node → Leads arcs s node
from arcs s node m =
    elim (Contains-cases s (filter (leads arcs s) (map (λ (arc : Arc). arc.head) arcs)) node m) [
      | inl e ↦ ([], e)
      | inr n ↦ way_from_leads arcs s node (All-contains (λ (x : ℕ). leads arcs s x ≡ true) (filter (leads arcs s) (map (λ (arc : Arc). arc.head) arcs)) node
          (filter_passes (leads arcs s) (map (λ (arc : Arc). arc.head) arcs)) n)
    ]

pub reached_are_listed : ReachedAreListed
reached_are_listed arcs s =
    (listed arcs s, λ node. (to arcs s node, from arcs s node))
