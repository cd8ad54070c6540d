-- The arcs of a question at their places, and what the clauses of a family mean for the places that it uses.
use Rattle.std.proofs.Common.{◌≡◌, ℕ, zero, suc, ◌<◌, Bool, true, not, IsTrue, List, [], ◌∷◌, length, get_or, map, filter, AllPairs, Contains, inl, inr, refl, sym, ap, ◌∙◌, subst, arith}
use Rattle.std.proofs.lemmas.Bool.{cases_order, or_cases as or_split}
use Rattle.std.proofs.lemmas.List.Elements.{All-contains, Contains-get_or}
use Rattle.std.proofs.lemmas.List.Kept.{AllPairs-filter}
use Rattle.arc_base.proofs.Items.{Contains-map, from_map, Contains-filter, from_filter, All-from, AllPairs-map, AllPairs-unmap}
use Rattle.graph_flow.specs.declared.arcs.Arc.{Arc}
use Rattle.graph_flow.specs.Paths.{IsGraph, Joins, MayShare}
use Rattle.condition_formula.specs.declared.network.ConditionArc.{ConditionArc}
use Rattle.condition_formula.specs.declared.network.Question.{Question}
use Rattle.condition_formula.specs.Conditions.{IsSound, is_routed, bare, routed_arcs}
use Rattle.condition_formula.specs.Clauses.{yes, no, part_value, parts_value}
use Rattle.condition_formula.specs.Reaching.{no_arc, arc_at, places}
use Rattle.condition_formula.proofs.Parts.{any_from, any_to}
use Rattle.condition_formula.proofs.Places.{in_upto, below, not_true}
use Rattle.condition_formula.proofs.Distinct.{upto-rising}

-- the places with a property
abbrev pub at_places : Question → (ConditionArc → Bool) → List ℕ
at_places q test = filter (λ (place : ℕ). test (arc_at q place)) (places q)

pub at_place : (q : Question) (test : ConditionArc → Bool) (place : ℕ) → place < length q.arcs → test (arc_at q place) ≡ true → Contains (at_places q test) place
at_place q test place l t = Contains-filter (λ (p : ℕ). test (arc_at q p)) (places q) place (in_upto (length q.arcs) place l) t

pub from_place : (q : Question) (test : ConditionArc → Bool) (place : ℕ) → Contains (at_places q test) place → (place < length q.arcs) × (test (arc_at q place) ≡ true)
from_place q test place m = let r = from_filter (λ (p : ℕ). test (arc_at q p)) (places q) place m in (below (length q.arcs) place r.0, r.1)

pub places-rising : (q : Question) (test : ConditionArc → Bool) → AllPairs (λ (i j : ℕ). i < j) (at_places q test)
places-rising q test = AllPairs-filter (λ (i j : ℕ). i < j) (λ (p : ℕ). test (arc_at q p)) (places q) (upto-rising (length q.arcs))

pub is_arc : (q : Question) (place : ℕ) → place < length q.arcs → Contains q.arcs (arc_at q place)
is_arc q place l = Contains-get_or q.arcs place no_arc l

-- what is at a place does not depend on the default
get_or_any : {X : Type 0} (xs : List X) (k : ℕ) (d e : X) → k < length xs → get_or xs k d ≡ get_or xs k e
get_or_any [] k d e l = absurd (omega arith)
get_or_any (x ∷ xs) zero d e l = refl
get_or_any (x ∷ xs) (suc k) d e l = get_or_any xs k d e (omega arith)

-- each arc has a place
pub has_place : (q : Question) (arc : ConditionArc) → Contains q.arcs arc → (place : ℕ) × (place < length q.arcs) × (arc_at q place ≡ arc)
has_place q arc (k, l, e) = (k, l, get_or_any q.arcs k no_arc arc l ∙ e)

pub joins_at : (nodes links edits : ℕ) (q : Question) → IsSound nodes links edits q → (place : ℕ) → place < length q.arcs → Joins nodes (bare (arc_at q place))
joins_at nodes links edits q sound place l =
    All-contains (Joins nodes) (map bare q.arcs) (bare (arc_at q place)) sound.graph.joined (Contains-map bare q.arcs (arc_at q place) (is_arc q place l))

-- two places with one bare arc are equal
earlier : (nodes links edits : ℕ) (q : Question) → IsSound nodes links edits q → (i j : ℕ) → i < j → j < length q.arcs → bare (arc_at q i) ≡ bare (arc_at q j) → ⊥
earlier nodes links edits q sound i j l m e =
    let share : MayShare (bare (arc_at q i)) (bare (arc_at q j)) = AllPairs-unmap MayShare bare q.arcs sound.graph.opposite i j no_arc l m in
    let turn : (bare (arc_at q i)).tail ≡ (bare (arc_at q j)).head = share.forth (ap (λ (x : Arc). x.link) e) in
    (joins_at nodes links edits q sound j m).apart (ap (λ (x : Arc). x.tail) (sym e) ∙ turn)

pub one_place : (nodes links edits : ℕ) (q : Question) → IsSound nodes links edits q → (i j : ℕ) → i < length q.arcs → j < length q.arcs → bare (arc_at q i) ≡ bare (arc_at q j) → i ≡ j
one_place nodes links edits q sound i j l m e =
    elim (cases_order i j) [
      | inl same ↦ same
      | inr other ↦ elim other [
        | inl less ↦ absurd (earlier nodes links edits q sound i j less m e)
        | inr more ↦ absurd (earlier nodes links edits q sound j i more l (sym e))
      ]
    ]

-- the routed arcs make a graph
pub routed-graph : (nodes links edits : ℕ) (chosen : ℕ → Bool) (q : Question) → IsSound nodes links edits q → IsGraph (record { nodes = nodes; arcs = routed_arcs chosen q })
routed-graph nodes links edits chosen q sound = record {
  joined = All-from (Joins nodes) (routed_arcs chosen q) (λ arc m.
      let b = from_map bare (filter (is_routed chosen) q.arcs) arc m in
      let f = from_filter (is_routed chosen) q.arcs b.0 b.1 in
      subst (Joins nodes) b.2 (All-contains (Joins nodes) (map bare q.arcs) (bare b.0) sound.graph.joined (Contains-map bare q.arcs b.0 f.0)));
  opposite = AllPairs-map MayShare bare (filter (is_routed chosen) q.arcs)
      (AllPairs-filter (λ (x y : ConditionArc). MayShare (bare x) (bare y)) (is_routed chosen) q.arcs (AllPairs-unmap MayShare bare q.arcs sound.graph.opposite));
}

-- a routed arc at its place is one of the routed arcs
pub routed_at : (chosen : ℕ → Bool) (q : Question) (place : ℕ) → place < length q.arcs → is_routed chosen (arc_at q place) ≡ true → Contains (routed_arcs chosen q) (bare (arc_at q place))
routed_at chosen q place l t = Contains-map bare (filter (is_routed chosen) q.arcs) (arc_at q place) (Contains-filter (is_routed chosen) q.arcs (arc_at q place) (is_arc q place l) t)

-- each routed arc has a place
pub from_routed : (chosen : ℕ → Bool) (q : Question) (arc : Arc) → Contains (routed_arcs chosen q) arc →
    (place : ℕ) × (place < length q.arcs) × (bare (arc_at q place) ≡ arc) × (is_routed chosen (arc_at q place) ≡ true)
from_routed chosen q arc m =
    let b = from_map bare (filter (is_routed chosen) q.arcs) arc m in
    let f = from_filter (is_routed chosen) q.arcs b.0 b.1 in
    let p = has_place q b.0 f.0 in
    (p.0, p.1, ap bare p.2 ∙ b.2, ap (is_routed chosen) p.2 ∙ f.1)

-- a clause that some variable of the places is true
pub some_used : (a : ℕ → Bool) (used : ℕ → ℕ) (ps : List ℕ) → IsTrue (parts_value a (map (λ (p : ℕ). yes (used p)) ps)) → (p : ℕ) × Contains ps p × (a (used p) ≡ true)
some_used a used ps t =
    let r = any_to (part_value a) (map (λ (p : ℕ). yes (used p)) ps) t in
    let p = from_map (λ (p : ℕ). yes (used p)) ps r.0 r.1 in
    (p.0, p.1, ap (part_value a) p.2 ∙ r.2)

pub use_some : (a : ℕ → Bool) (used : ℕ → ℕ) (ps : List ℕ) (p : ℕ) → Contains ps p → a (used p) ≡ true → IsTrue (parts_value a (map (λ (p : ℕ). yes (used p)) ps))
use_some a used ps p m t = any_from (part_value a) (map (λ (p : ℕ). yes (used p)) ps) (yes (used p)) (Contains-map (λ (p : ℕ). yes (used p)) ps p m) t

-- a clause that the first implies some of the others
pub one_implies : (a : ℕ → Bool) (used : ℕ → ℕ) (place : ℕ) (others : List ℕ) → IsTrue (parts_value a (no (used place) ∷ map (λ (p : ℕ). yes (used p)) others)) → a (used place) ≡ true →
    (p : ℕ) × Contains others p × (a (used p) ≡ true)
one_implies a used place others t on =
    some_used a used others (elim (or_split (not (a (used place))) (parts_value a (map (λ (p : ℕ). yes (used p)) others)) t) [
      | inl off ↦ absurd (not_true (a (used place)) on off)
      | inr rest ↦ rest
    ])
