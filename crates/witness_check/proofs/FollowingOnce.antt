-- Links that are followed past no router twice.
use Rattle.std.proofs.Common.{◌≡◌, ◌≢◌, ℕ, zero, suc, ◌+◌, ◌-◌, ◌<◌, ◌≤◌, List, [], ◌∷◌, length, get_or, take, drop, map, refl, sym, ◌∙◌, ap, subst, arith}
use Rattle.std.specs.Prelude.{IsTrue, ◌↔◌, ◌==◌, AllPairs}
use Rattle.std.specs.List.{AllByRecursion}
use Rattle.std.proofs.lemmas.Bool.{eqb-true, eq-eqb}
use Rattle.std.proofs.lemmas.List.{drop_more, drop_all, take_rest}
use Rattle.arc_base.specs.declared.place.Link.{Link}
use Rattle.arc_base.specs.declared.prefix.Prefix.{Prefix}
use Rattle.net_model.specs.declared.rows.Network.{Network}
use Rattle.net_model.specs.Routing.{Arc, head_router}
use Rattle.net_model.specs.Validity.{IsValid}
use Rattle.net_model.specs.Witnesses.{Path, links_of, routers_of}
use Rattle.witness_check.specs.Trails.{IsStep, IsTrail, IsTrailOnce, Avoids, AnyArc}
use Rattle.witness_check.proofs.Following.{one_step, one_way, trail_none, any, no_links, same_head, same_rest, link_of, same_link}

abbrev Differ : ℕ → ℕ → Type 0
Differ a b = a ≢ b

-- the first router differs from each that follows
first_differs : (u : ℕ) (arcs : List Arc) → ((j : ℕ) (d : ℕ) → j < length (map head_router arcs) → u ≢ get_or (map head_router arcs) j d) → AllByRecursion (Avoids u) arcs
first_differs u [] differs = tt
first_differs u (a ∷ arcs) differs = (λ e. differs 0 u (omega arith) (sym e), first_differs u arcs (λ j d less. differs (suc j) d (omega arith)))

later_differs : (u : ℕ) (arcs : List Arc) → AllByRecursion (Avoids u) arcs → (j : ℕ) (d : ℕ) → j < length (map head_router arcs) → u ≢ get_or (map head_router arcs) j d
later_differs u [] avoid j d less e = absurd (omega (arith, less))
later_differs u (a ∷ arcs) avoid zero d less e = avoid.0 (sym e)
later_differs u (a ∷ arcs) avoid (suc j) d less e = later_differs u arcs avoid.1 j d (omega arith) e

pub avoids_first : (u : ℕ) (arcs : List Arc) → AllPairs Differ (routers_of u arcs) → AllByRecursion (Avoids u) arcs
avoids_first u arcs once = first_differs u arcs (λ j d less. once 0 (suc j) d (omega arith) (omega arith))

pub once_rest : (u : ℕ) (rest : List ℕ) → AllPairs Differ (u ∷ rest) → AllPairs Differ rest
once_rest u rest once i j d less within = once (suc i) (suc j) d (omega arith) (omega arith)

once_more : (u : ℕ) (rest : List ℕ) → ((j : ℕ) (d : ℕ) → j < length rest → u ≢ get_or rest j d) → AllPairs Differ rest → AllPairs Differ (u ∷ rest)
once_more u rest first pairs i zero d less within = absurd (omega (arith, less))
once_more u rest first pairs zero (suc j) d less within = first j d (omega arith)
once_more u rest first pairs (suc i) (suc j) d less within = pairs i j d (omega arith) (omega arith)

module _ (net : Network) (to : Prefix) where
  once_leads : (u : ℕ) (links : List Link) (v : ℕ) → IsTrailOnce net to u links v → IsTrail net to AnyArc u links v
  once_leads u links v once = record { arcs = once.arcs; over = once.over; leads = once.leads; each = any once.arcs }

  once_avoids : (u : ℕ) (links : List Link) (v : ℕ) → IsTrailOnce net to u links v → IsTrail net to (Avoids u) u links v
  once_avoids u links v once = record { arcs = once.arcs; over = once.over; leads = once.leads; each = avoids_first u once.arcs once.once }

  -- what is left after the first arc
  rest_of : IsValid net → (u : ℕ) (link : Link) (links : List Link) (v : ℕ) (arc : Arc) → IsStep net to u link.0 arc → (arcs : List Arc) → links_of arcs ≡ link ∷ links →
      Path net to u arcs v → AllPairs Differ (routers_of u arcs) → IsTrailOnce net to (head_router arc) links v
  rest_of valid u link links v arc step [] over leads once = absurd (no_links link links over)
  rest_of valid u link links v arc step (a ∷ arcs) over leads once =
      let first : IsStep net to u link.0 a =
      record { routed = (leads.0, leads.1); over = ap (λ (l : Link). l.0) (same_head (link_of a) link (links_of arcs) links over); tail = leads.2 } in
      let here : IsTrailOnce net to (head_router a) links v =
      record { arcs = arcs; over = same_rest (link_of a) link (links_of arcs) links over; leads = leads.3; once = once_rest u (routers_of (head_router a) arcs) once } in
      subst (λ (x : Arc). IsTrailOnce net to (head_router x) links v) (one_step net to valid u link.0 a arc first step) here

  -- with a first arc, where the routers that follow are others
  whole_of : IsValid net → (u : ℕ) (link : Link) (links : List Link) (v : ℕ) (arc : Arc) → IsStep net to u link.0 arc → IsTrail net to (Avoids u) u (link ∷ links) v →
      IsTrailOnce net to (head_router arc) links v → IsTrailOnce net to u (link ∷ links) v
  whole_of valid u link links v arc step avoid rest =
      let arcs : List Arc = arc ∷ rest.arcs in
      let over : links_of (arc ∷ rest.arcs) ≡ link ∷ links =
      ap (λ (l : Link). l ∷ links_of rest.arcs) (same_link arc link step.over) ∙ ap (λ (ls : List Link). link ∷ ls) rest.over in
      let leads : Path net to u (arc ∷ rest.arcs) v = (step.routed.0, step.routed.1, step.tail, rest.leads) in
      let same : avoid.arcs ≡ arc ∷ rest.arcs = one_way net to valid u v v (link ∷ links) avoid.arcs (arc ∷ rest.arcs) avoid.over over avoid.leads leads in
      let each : AllByRecursion (Avoids u) (arc ∷ rest.arcs) = subst (λ (xs : List Arc). AllByRecursion (Avoids u) xs) same avoid.each in
      record {
        arcs = arc ∷ rest.arcs;
        over = over;
        leads = leads;
        once = once_more u (routers_of (head_router arc) rest.arcs) (later_differs u (arc ∷ rest.arcs) each) rest.once;
      }

  pub once_none_at : (u : ℕ) (links : List Link) (i : ℕ) (d : Link) (v : ℕ) → i < length links → ((arc : Arc) → ¬ IsStep net to u (get_or links i d).0 arc) →
      ¬ IsTrailOnce net to u (drop i links) v
  once_none_at u links i d v within none once =
      trail_none net to AnyArc u (get_or links i d) (drop (i + 1) links) v none
      (once_leads u (get_or links i d ∷ drop (i + 1) links) v (subst (λ (ls : List Link). IsTrailOnce net to u ls v) (drop_more links i d within) once))

  pub once_avoids_at : (u : ℕ) (links : List Link) (i v : ℕ) → IsTrailOnce net to u (drop i links) v → IsTrail net to (Avoids u) u (take (length links - i) (drop i links)) v
  once_avoids_at u links i v once =
      subst (λ (ls : List Link). IsTrail net to (Avoids u) u ls v) (sym (take_rest links i)) (once_avoids u (drop i links) v once)

  pub once_on_at : IsValid net → (A : Type 0) (u : ℕ) (links : List Link) (i : ℕ) (d : Link) (v : ℕ) (arc : Arc) → i < length links → IsStep net to u (get_or links i d).0 arc →
      IsTrail net to (Avoids u) u (take (length links - i) (drop i links)) v → (A ↔ IsTrailOnce net to u (drop i links) v) → A ↔ IsTrailOnce net to (head_router arc) (drop (i + 1) links) v
  once_on_at valid A u links i d v arc within step avoid before =
      let here : drop i links ≡ get_or links i d ∷ drop (i + 1) links = drop_more links i d within in
      let others : IsTrail net to (Avoids u) u (get_or links i d ∷ drop (i + 1) links) v =
      subst (λ (ls : List Link). IsTrail net to (Avoids u) u ls v) (take_rest links i ∙ here) avoid in (
        λ a. let once : IsTrailOnce net to u (get_or links i d ∷ drop (i + 1) links) v = subst (λ (ls : List Link). IsTrailOnce net to u ls v) here (before.0 a) in
            rest_of valid u (get_or links i d) (drop (i + 1) links) v arc step once.arcs once.over once.leads once.once,
        λ rest. before.1 (subst (λ (ls : List Link). IsTrailOnce net to u ls v) (sym here)
            (whole_of valid u (get_or links i d) (drop (i + 1) links) v arc step others rest)),
      )

  once_end : (u v : ℕ) (arcs : List Arc) → links_of arcs ≡ [] → Path net to u arcs v → u ≡ v
  once_end u v [] over leads = leads
  once_end u v (a ∷ arcs) over leads = absurd (no_links (link_of a) (links_of arcs) (sym over))

  pub once_ends_at : (A : Type 0) (u : ℕ) (links : List Link) (i : ℕ) (v : ℕ) → length links ≤ i → (A ↔ IsTrailOnce net to u (drop i links) v) → IsTrue (u == v) ↔ A
  once_ends_at A u links i v past before =
      let here : drop i links ≡ [] = drop_all i links past in (
        λ t. before.1 (subst (λ (ls : List Link). IsTrailOnce net to u ls v) (sym here)
            (record { arcs = []; over = refl; leads = eqb-true u v t; once = λ i j d less within. absurd (omega (arith, less, within)) })),
        λ a. let once : IsTrailOnce net to u [] v = subst (λ (ls : List Link). IsTrailOnce net to u ls v) here (before.0 a) in
            eq-eqb u v (once_end u v once.arcs once.over once.leads),
      )
