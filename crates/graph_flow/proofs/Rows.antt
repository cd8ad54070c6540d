-- How a graph keeps the rows of its nodes.
use Rattle.std.proofs.Common.{◌≡◌, ◌≢◌, ℕ, ◌+◌, ◌<◌, ◌^◌, max, Bool, true, false, cond, ◌||◌, List, [], ◌∷◌, ◌++◌, length}
use Rattle.std.proofs.Common.{get_or, set, replicate, All, AllPairs, inl, inr, refl, sym, ap, ◌∙◌, subst, arith, length-set, get_or-set_same, get_or-set_other, append-nil}
use Rattle.std.specs.Prelude.{◌==◌}
use Rattle.std.proofs.lemmas.Bool.{cases_eq, eq-eqb, ne_eqb}
use Rattle.std.proofs.lemmas.List.{get_or-replicate, length-replicate, set-get_or, set-set}
use Rattle.std.proofs.lemmas.List.Elements.{All-nil, All-push, All-weaker, filter-append}
use Rattle.std.proofs.lemmas.List.Quantifiers.{all_pairs_push}
use Rattle.graph_flow.specs.declared.arcs.Arc.{Arc}
use Rattle.graph_flow.specs.declared.graph.Graph.TheInside.{Inside}
use Rattle.graph_flow.specs.Paths.{Joins, MayShare}
use Rattle.graph_flow.specs.Residual.{touches, touching, with_arc}
use Rattle.graph_flow.specs.Adjacency.{IsKept, AreRows}
use Rattle.graph_flow.proofs.Lists.{AllPairs-nil}

-- a graph without arcs
pub kept-empty : (g : Inside) (nodes : ℕ) → g.arcs.items ≡ [] → g.rows.items ≡ replicate nodes [] → nodes < 2 ^ 32 → IsKept g
kept-empty g nodes arcs rows few =
    let none : List Arc = [] in
    let count : length g.rows.items ≡ nodes = ap length rows ∙ length-replicate nodes none in
    record {
      graph = record {
        joined = subst (λ (xs : List Arc). All (Joins (length g.rows.items)) xs) (sym arcs) (All-nil (Joins (length g.rows.items)));
        opposite = subst (λ (xs : List Arc). AllPairs MayShare xs) (sym arcs) (AllPairs-nil MayShare);
      };
      rows = λ node l.
          let at : get_or g.rows.items node [] ≡ [] = ap (λ (rs : List (List Arc)). get_or rs node []) rows ∙ get_or-replicate nodes node none none (omega (arith, l, count)) in
          at ∙ sym (ap (λ (xs : List Arc). touching xs node) arcs);
      links = subst (λ (xs : List Arc). All (λ arc. arc.link.0 < g.links) xs) (sym arcs) (All-nil (λ (arc : Arc). arc.link.0 < g.links));
      few = omega (arith, count, few);
    }

-- what was pushed to the one row is taken back, after the other row stayed as it was
pub undone : (rows : List (List Arc)) (tail head : ℕ) (pushed kept popped d e f : List Arc) (arc : Arc) → tail < length rows →
    pushed ≡ get_or rows tail d ++ arc ∷ [] → kept ≡ get_or (set rows tail pushed) head e →
    ((xs : List Arc) (x : Arc) → get_or (set (set rows tail pushed) head kept) tail f ≡ xs ++ x ∷ [] → popped ≡ xs) →
    set (set (set rows tail pushed) head kept) tail popped ≡ rows
undone rows tail head pushed kept popped d e f arc l is_pushed is_kept is_popped =
    let same : set (set rows tail pushed) head kept ≡ set rows tail pushed = ap (λ (r : List Arc). set (set rows tail pushed) head r) is_kept ∙ set-get_or (set rows tail pushed) head e in
    let at : get_or (set (set rows tail pushed) head kept) tail f ≡ get_or rows tail d ++ arc ∷ [] =
    ap (λ (rs : List (List Arc)). get_or rs tail f) same ∙ get_or-set_same rows tail pushed f l ∙ is_pushed in
    let back : popped ≡ get_or rows tail d = is_popped (get_or rows tail d) arc at in
    ap (λ (rs : List (List Arc)). set rs tail popped) same ∙ set-set rows tail pushed popped ∙ ap (λ (r : List Arc). set rows tail r) back ∙ set-get_or rows tail d

or_true : (b : Bool) → (b || true) ≡ true
or_true true = refl
or_true false = refl

pick : (b c : Bool) (arc : Arc) → b ≡ c → cond b (arc ∷ []) [] ≡ cond c (arc ∷ []) []
pick b c arc e = ap (λ (x : Bool). cond x (arc ∷ []) []) e

-- the rows with an arc more are those of the list with an arc more
rows-more : (arcs : List Arc) (rows : List (List Arc)) (arc : Arc) → AreRows arcs rows → arc.tail < length rows → arc.head < length rows → arc.tail ≢ arc.head →
    AreRows (arcs ++ arc ∷ []) (with_arc rows arc)
rows-more arcs rows arc old lt lh apart node l =
    let first : List (List Arc) = set rows arc.tail (get_or rows arc.tail [] ++ arc ∷ []) in
    let at_head : get_or first arc.head [] ≡ get_or rows arc.head [] = get_or-set_other rows arc.tail arc.head (get_or rows arc.tail [] ++ arc ∷ []) [] (λ e. apart (sym e)) in
    let size : length (with_arc rows arc) ≡ length rows = length-set first arc.head (get_or first arc.head [] ++ arc ∷ []) ∙ length-set rows arc.tail (get_or rows arc.tail [] ++ arc ∷ []) in
    let size_first : length first ≡ length rows = length-set rows arc.tail (get_or rows arc.tail [] ++ arc ∷ []) in
    let split : touching (arcs ++ arc ∷ []) node ≡ touching arcs node ++ cond (touches node arc) (arc ∷ []) [] = filter-append (touches node) arcs (arc ∷ []) in
    let row : get_or rows node [] ≡ touching arcs node = old node (omega (arith, l, size)) in
    elim (cases_eq arc.head node) [
      | inl e ↦
          let yes_it : touches node arc ≡ true = ap (λ (b : Bool). (arc.tail == node) || b) (eq-eqb arc.head node e) ∙ or_true (arc.tail == node) in
          let new : get_or (with_arc rows arc) node [] ≡ get_or first arc.head [] ++ arc ∷ [] =
          ap (λ (n : ℕ). get_or (with_arc rows arc) n []) (sym e) ∙ get_or-set_same first arc.head (get_or first arc.head [] ++ arc ∷ []) [] (omega (arith, size_first, lh)) in
          new ∙ ap (λ (r : List Arc). r ++ arc ∷ []) (at_head ∙ ap (λ (n : ℕ). get_or rows n []) e ∙ row)
          ∙ ap (λ (r : List Arc). touching arcs node ++ r) (sym (pick (touches node arc) true arc yes_it)) ∙ sym split
      | inr not_head ↦
          let new : get_or (with_arc rows arc) node [] ≡ get_or first node [] = get_or-set_other first arc.head node (get_or first arc.head [] ++ arc ∷ []) [] (λ e. not_head (sym e)) in
          elim (cases_eq arc.tail node) [
            | inl e ↦
                let yes_it : touches node arc ≡ true = ap (λ (b : Bool). b || (arc.head == node)) (eq-eqb arc.tail node e) in
                let at : get_or first node [] ≡ get_or rows arc.tail [] ++ arc ∷ [] =
                ap (λ (n : ℕ). get_or first n []) (sym e) ∙ get_or-set_same rows arc.tail (get_or rows arc.tail [] ++ arc ∷ []) [] lt in
                new ∙ at ∙ ap (λ (r : List Arc). r ++ arc ∷ []) (ap (λ (n : ℕ). get_or rows n []) e ∙ row)
                ∙ ap (λ (r : List Arc). touching arcs node ++ r) (sym (pick (touches node arc) true arc yes_it)) ∙ sym split
            | inr not_tail ↦
                let not_it : touches node arc ≡ false = ap (λ (b : Bool). b || (arc.head == node)) (ne_eqb arc.tail node not_tail) ∙ ne_eqb arc.head node not_head in
                let at : get_or first node [] ≡ get_or rows node [] = get_or-set_other rows arc.tail node (get_or rows arc.tail [] ++ arc ∷ []) [] (λ e. not_tail (sym e)) in
                new ∙ at ∙ row ∙ sym (append-nil (touching arcs node)) ∙ ap (λ (r : List Arc). touching arcs node ++ r) (sym (pick (touches node arc) false arc not_it)) ∙ sym split
          ]
    ]

-- a graph with an arc more
pub kept-more : (g h : Inside) (arc : Arc) → IsKept g → Joins (length g.rows.items) arc → All (λ (other : Arc). MayShare other arc) g.arcs.items →
    h.arcs.items ≡ g.arcs.items ++ arc ∷ [] → h.rows.items ≡ with_arc g.rows.items arc → h.links ≡ max g.links (arc.link.0 + 1) → IsKept h
kept-more g h arc kept joins share arcs rows links =
    let size : length h.rows.items ≡ length g.rows.items =
    ap length rows ∙ length-set (set g.rows.items arc.tail (get_or g.rows.items arc.tail [] ++ arc ∷ [])) arc.head (get_or
    (set g.rows.items arc.tail (get_or g.rows.items arc.tail [] ++ arc ∷ [])) arc.head [] ++ arc ∷ [])
    ∙ length-set g.rows.items arc.tail (get_or g.rows.items arc.tail [] ++ arc ∷ []) in
    let joined : All (Joins (length g.rows.items)) (g.arcs.items ++ arc ∷ []) = All-push (Joins (length g.rows.items)) g.arcs.items arc kept.graph.joined joins in
    let opposite : AllPairs MayShare (g.arcs.items ++ arc ∷ []) = all_pairs_push MayShare g.arcs.items arc kept.graph.opposite share in
    let below : All (λ (a : Arc). a.link.0 < h.links) (g.arcs.items ++ arc ∷ []) =
    All-push (λ (a : Arc). a.link.0 < h.links) g.arcs.items arc
    (All-weaker (λ (a : Arc). a.link.0 < g.links) (λ (a : Arc). a.link.0 < h.links) (λ a l. omega (arith, l, links)) g.arcs.items kept.links) (omega (arith, links)) in
    record {
      graph = record {
        joined = subst (λ (n : ℕ). All (Joins n) h.arcs.items) (sym size) (subst (λ (xs : List Arc). All (Joins (length g.rows.items)) xs) (sym arcs) joined);
        opposite = subst (λ (xs : List Arc). AllPairs MayShare xs) (sym arcs) opposite;
      };
      rows = subst (λ (rs : List (List Arc)). AreRows h.arcs.items rs) (sym rows)
          (subst (λ (xs : List Arc). AreRows xs (with_arc g.rows.items arc)) (sym arcs) (rows-more g.arcs.items g.rows.items arc kept.rows joins.tail_node joins.head_node joins.apart));
      links = subst (λ (xs : List Arc). All (λ (a : Arc). a.link.0 < h.links) xs) (sym arcs) below;
      few = omega (arith, size, kept.few);
    }
