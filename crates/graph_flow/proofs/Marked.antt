-- The ways that a finished search knows.
use Rattle.std.proofs.Common.{◌≡◌, ◌≢◌, ℕ, zero, suc, ◌≤◌, Bool, true, false, IsTrue, is_some, List, [], ◌∷◌, ◌++◌, length, get_or}
use Rattle.std.proofs.Common.{map, replicate, reverse, append_assoc, All, inl, inr, ◌⊎◌, refl, sym, ap, ◌∙◌, subst, arith, Some, None, Option}
use Rattle.std.specs.Prelude.{if◌then◌else◌}
use Rattle.std.proofs.lemmas.Bool.{cases_lt, false≢true}
use Rattle.std.proofs.lemmas.List.{get_or_past, get_or-map, map_push, length-map, reverse-append}
use Rattle.std.proofs.lemmas.List.Elements.{All-push, All-weaker, All-nil, All-cons}
use Rattle.std.proofs.lemmas.List.Quantifiers.{all_pairs_push}
use Rattle.arc_base.specs.declared.place.Link.{Link}
use Rattle.graph_flow.specs.declared.arcs.Arc.{Arc}
use Rattle.graph_flow.specs.declared.search.Mark.{Mark}
use Rattle.graph_flow.specs.declared.search.Mark.TheVariants.{Unseen, Start, After}
use Rattle.graph_flow.specs.Paths.{ArcPath, Leads, nodes_of, links_of, IsArcPath}
use Rattle.arc_base.specs.Lists.{AreDistinct}
use Rattle.graph_flow.specs.Residual.{residual}
use Rattle.graph_flow.specs.Marks.{is_seen, depth_of, mark_at, way_by, way_to, path_by, paths_by, IsAfter, AreSteps, IsMarked, IsSpread}
use Rattle.graph_flow.proofs.Lists.{AllPairs-nil, AllPairs-cons}
use Rattle.graph_flow.proofs.Ways.{Path-snoc, stays_inside}
use Rattle.graph_flow.proofs.Searches.{Seen}

pub mark-cases : (mark : Mark) → (mark ≡ Unseen) ⊎ ((mark ≡ Start) ⊎ ((arc : Arc) × (depth : ℕ) × (mark ≡ After arc depth)))
mark-cases Unseen = inl refl
mark-cases Start = inr (inl refl)
mark-cases (After arc depth) = inr (inr (arc, depth, refl))

-- the way by which a node was reached leads there, and its nodes have lower depths one before the other
pub record Reached (arcs : List Arc) (s : ℕ) (marks : List Mark) (node depth : ℕ) : Type 0 where
  pub leads : ArcPath arcs s (way_by marks depth (mark_at marks node)) node
  pub once : AreDistinct (nodes_of s (way_by marks depth (mark_at marks node)))
  pub low : All (λ x. depth_of (mark_at marks x) ≤ depth) (nodes_of s (way_by marks depth (mark_at marks node)))

-- a way, whatever its spelling
record On (arcs : List Arc) (s : ℕ) (marks : List Mark) (node depth : ℕ) (way : List Arc) : Type 0 where
  leads : ArcPath arcs s way node
  once : AreDistinct (nodes_of s way)
  low : All (λ x. depth_of (mark_at marks x) ≤ depth) (nodes_of s way)

on-reached : (arcs : List Arc) (s : ℕ) (marks : List Mark) (node depth : ℕ) → On arcs s marks node depth (way_by marks depth (mark_at marks node)) → Reached arcs s marks node depth
on-reached arcs s marks node depth on = record { leads = on.leads; once = on.once; low = on.low }

unseen-false : (mark : Mark) → mark ≡ Unseen → IsTrue (is_seen mark) → ⊥
unseen-false mark e seen = false≢true (sym (ap is_seen e) ∙ seen)

pub reached : (arcs : List Arc) (s : ℕ) (marks : List Mark) → IsMarked arcs s marks → (depth node : ℕ) → Seen marks node → depth_of (mark_at marks node) ≡ depth → Reached arcs s marks node depth
reached arcs s marks marked zero node seen d =
    elim (mark-cases (mark_at marks node)) [
      | inl e ↦ absurd (unseen-false (mark_at marks node) e seen)
      | inr more ↦ elim more [
        | inl e ↦
            let same : node ≡ s = marked.one_start node e in
            record {
              leads = sym same;
              once = AllPairs-cons (λ x y. x ≢ y) s [] (All-nil (λ x. s ≢ x)) (AllPairs-nil (λ x y. x ≢ y));
              low = All-cons (λ x. depth_of (mark_at marks x) ≤ 0) s [] (let z : depth_of (mark_at marks s) ≡ 0 = ap depth_of marked.start in omega (arith, z))
                  (All-nil (λ x. depth_of (mark_at marks x) ≤ 0));
            }
        | inr (arc, steps, e) ↦
            let after : IsAfter marks node arc steps = marked.steps node arc steps e in
            let is : depth_of (mark_at marks node) ≡ steps = ap depth_of e in
            absurd (omega (arith, after.step, is, d))
      ]
    ]
reached arcs s marks marked (suc depth) node seen d =
    elim (mark-cases (mark_at marks node)) [
      | inl e ↦ absurd (unseen-false (mark_at marks node) e seen)
      | inr more ↦ elim more [
        | inl e ↦ let is : depth_of (mark_at marks node) ≡ 0 = ap depth_of e in absurd (omega (arith, is, d))
        | inr (arc, steps, e) ↦
            let after : IsAfter marks node arc steps = marked.steps node arc steps e in
            let is : depth_of (mark_at marks node) ≡ steps = ap depth_of e in
            let tail_depth : depth_of (mark_at marks arc.tail) ≡ depth = omega (arith, after.step, is, d) in
            let before : Reached arcs s marks arc.tail depth = reached arcs s marks marked depth arc.tail after.tail tail_depth in
            let nodes_are : nodes_of s (way_by marks depth (mark_at marks arc.tail)) ++ arc.head ∷ [] ≡ nodes_of s (way_by marks depth (mark_at marks arc.tail) ++ arc ∷ []) =
            ap (λ (xs : List ℕ). s ∷ xs) (sym (map_push (λ (x : Arc). x.head) (way_by marks depth (mark_at marks arc.tail)) arc)) in
            let head_depth : depth_of (mark_at marks arc.head) ≡ suc depth = ap (λ (n : ℕ). depth_of (mark_at marks n)) after.head ∙ d in
            let last : On arcs s marks node (suc depth) (way_by marks depth (mark_at marks arc.tail) ++ arc ∷ []) = record {
              leads = subst (λ (n : ℕ). ArcPath arcs s (way_by marks depth (mark_at marks arc.tail) ++ arc ∷ []) n) after.head
                  (Path-snoc arcs s (way_by marks depth (mark_at marks arc.tail)) arc before.leads (marked.over node arc steps e));
              once = subst (λ (xs : List ℕ). AreDistinct xs) nodes_are
                  (all_pairs_push (λ x y. x ≢ y) (nodes_of s (way_by marks depth (mark_at marks arc.tail))) arc.head before.once (λ k x l same.
                  let low : depth_of (mark_at marks (get_or (nodes_of s (way_by marks depth (mark_at marks arc.tail))) k x)) ≤ depth = before.low k x l in
                  let same_depth : depth_of (mark_at marks (get_or (nodes_of s (way_by marks depth (mark_at marks arc.tail))) k x)) ≡ depth_of (mark_at marks arc.head) =
                  ap (λ (n : ℕ). depth_of (mark_at marks n)) same in
                  omega (arith, low, same_depth, head_depth)));
              low = subst (λ (xs : List ℕ). All (λ x. depth_of (mark_at marks x) ≤ suc depth) xs) nodes_are
                  (All-push (λ x. depth_of (mark_at marks x) ≤ suc depth) (nodes_of s (way_by marks depth (mark_at marks arc.tail))) arc.head
                  (All-weaker (λ x. depth_of (mark_at marks x) ≤ depth) (λ x. depth_of (mark_at marks x) ≤ suc depth) (λ x l. omega (arith, l))
                  (nodes_of s (way_by marks depth (mark_at marks arc.tail))) before.low)
                  (omega (arith, head_depth)));
            } in
            on-reached arcs s marks node (suc depth) (subst (λ (w : List Arc). On arcs s marks node (suc depth) w) (ap (λ (m : Mark). way_by marks (suc depth) m) (sym e)) last)
      ]
    ]

-- the way to a reached node
pub to-reached : (arcs : List Arc) (s : ℕ) (marks : List Mark) → IsMarked arcs s marks → (node : ℕ) → Seen marks node → Reached arcs s marks node (depth_of (mark_at marks node))
to-reached arcs s marks marked node seen = reached arcs s marks marked (depth_of (mark_at marks node)) node seen refl

pub seen-leads : (arcs : List Arc) (s : ℕ) (marks : List Mark) → IsSpread arcs s marks → (node : ℕ) → Seen marks node → Leads arcs s node
seen-leads arcs s marks spread node seen = (way_to marks node, (to-reached arcs s marks spread.marked node seen).leads)

pub leads-seen : (arcs : List Arc) (s : ℕ) (marks : List Mark) → IsSpread arcs s marks → (node : ℕ) → Leads arcs s node → Seen marks node
leads-seen arcs s marks spread node w = stays_inside arcs (λ n. Seen marks n) spread.closed s node w.0 w.1 (ap is_seen spread.marked.start)

-- what a caller sees at a node
pub paths-at : (marks : List Mark) (node : ℕ) → get_or (paths_by marks) node None ≡ path_by marks (mark_at marks node)
paths-at marks node =
    elim (cases_lt node (length marks)) [
      | inl l ↦ get_or-map (path_by marks) marks node Unseen None l
      | inr past ↦
          let out : length (paths_by marks) ≤ node = omega (arith, length-map marks (path_by marks)) in
          get_or_past (paths_by marks) node None out ∙ sym (ap (path_by marks) (get_or_past marks node Unseen past))
    ]

some-if : (b : Bool) (links : List Link) → is_some (if b then Some links else None) ≡ b
some-if true links = refl
some-if false links = refl

inside : (a b : List Link) → Some a ≡ Some b → a ≡ b
inside a b e = cc

nothing : (a : List Link) → None ≡ Some a → ⊥
nothing a e = cc

some-of : (b : Bool) (links found : List Link) → (if b then Some links else None) ≡ Some found → (b ≡ true) × (links ≡ found)
some-of true links found e = (refl, inside links found e)
some-of false links found e = absurd (nothing found e)

pub some-seen : (marks : List Mark) (node : ℕ) → is_some (get_or (paths_by marks) node None) ≡ is_seen (mark_at marks node)
some-seen marks node = ap is_some (paths-at marks node) ∙ some-if (is_seen (mark_at marks node)) (links_of (way_to marks node))

pub is-path : (arcs : List Arc) (s : ℕ) (marks : List Mark) → IsSpread arcs s marks → (node : ℕ) (links : List Link) → get_or (paths_by marks) node None ≡ Some links → IsArcPath arcs s links node
is-path arcs s marks spread node links e =
    let parts = some-of (is_seen (mark_at marks node)) (links_of (way_to marks node)) links (sym (paths-at marks node) ∙ e) in
    let way : Reached arcs s marks node (depth_of (mark_at marks node)) = to-reached arcs s marks spread.marked node parts.0 in
    record { way = way_to marks node; of_links = parts.1; leads = way.leads; once = way.once }

-- where nothing is carried, the residual network is the graph
pub residual-nothing : (arcs : List Arc) → residual [] arcs ≡ arcs
residual-nothing [] = refl
residual-nothing (arc ∷ arcs) = ap (λ (xs : List Arc). arc ∷ xs) (residual-nothing arcs)

unseen-paths : (marks : List Mark) (n : ℕ) → map (path_by marks) (replicate n Unseen) ≡ replicate n None
unseen-paths marks zero = refl
unseen-paths marks (suc n) = ap (λ (xs : List (Option (List Link))). None ∷ xs) (unseen-paths marks n)

pub map-unseen : (marks all : List Mark) (n : ℕ) → all ≡ replicate n Unseen → map (path_by marks) all ≡ replicate n None
map-unseen marks all n e = ap (λ (xs : List Mark). map (path_by marks) xs) e ∙ unseen-paths marks n

-- one step back from a node
pub way-step : (marks : List Mark) → AreSteps marks → (at : ℕ) (arc : Arc) (depth : ℕ) → mark_at marks at ≡ After arc depth → way_to marks at ≡ way_to marks arc.tail ++ arc ∷ []
way-step marks steps at arc depth e =
    let after : IsAfter marks at arc depth = steps at arc depth e in
    let count : depth ≡ suc (depth_of (mark_at marks arc.tail)) = omega (arith, after.step) in
    ap (λ (m : Mark). way_by marks (depth_of m) m) e ∙ ap (λ (n : ℕ). way_by marks n (After arc depth)) count

-- the arcs that are left and those gathered so far
pub arcs-step : (marks : List Mark) (at : ℕ) (arc : Arc) (back : List Arc) → way_to marks at ≡ way_to marks arc.tail ++ arc ∷ [] →
    way_to marks at ++ reverse back ≡ way_to marks arc.tail ++ reverse (back ++ arc ∷ [])
arcs-step marks at arc back step =
    ap (λ (w : List Arc). w ++ reverse back) step
    ∙ append_assoc (way_to marks arc.tail) (arc ∷ []) (reverse back)
    ∙ ap (λ (xs : List Arc). way_to marks arc.tail ++ xs) (sym (reverse-append back (arc ∷ [])))
