-- Which variables stand in a heap, and how many.
use Rattle.std.proofs.Common.{◌≡◌, ◌≢◌, ℕ, ◌+◌, ◌-◌, ◌<◌, ◌≤◌, ◌↔◌, ◌⊎◌, inl, inr, true, eqb, List, length, get_or, Contains, sym, ap, ◌∙◌, arith}
use Rattle.std.specs.List.{IsDistinct, list_any, Any}
use Rattle.std.proofs.lemmas.Bool.{cases_eq, ne_eqb, eqb-true}
use Rattle.std.proofs.lemmas.List.{get_or_default}
use Rattle.std.proofs.lemmas.List.Folds.{Any-from_list_any}
use Rattle.std.proofs.lemmas.Map.Keys.{IsDistinct-from_apart}
use Rattle.std.proofs.lemmas.Map.Steps.{length-le_from_distinct_below}
use Rattle.variable_heap.specs.Heaps.{IsInverse, HaveSamePlaced, HaveSame}
use Rattle.variable_heap.proofs.Places.{placed-below, stands-once}

-- a variable that stands in the heap has a place
pub has-place : (xs ps : List ℕ) (w : ℕ) → IsInverse xs ps → Contains xs w → get_or ps w 0 ≢ 0
has-place xs ps w inverse held none =
    let (k, k_in, at) = held in
    let here : get_or xs k 0 ≡ w = get_or_default xs k 0 w k_in ∙ at in
    let own : get_or ps w 0 ≡ k + 1 = ap (λ (v : ℕ). get_or ps v 0) (sym here) ∙ inverse.placed k k_in in
    omega arith

-- a variable that has a place stands there
pub held-at : (xs ps : List ℕ) (w : ℕ) → IsInverse xs ps → get_or ps w 0 ≢ 0 → Contains xs w
held-at xs ps w inverse some =
    let k : ℕ = get_or ps w 0 - 1 in
    let at : get_or ps w 0 ≡ k + 1 = omega arith in
    let k_in : k < length xs = inverse.within w k at in
    (k, k_in, get_or_default xs k w 0 k_in ∙ inverse.stands w k at)

-- where the same variables have places, the same stand in the heap
pub same-held : (xs ys ps qs : List ℕ) → IsInverse xs ps → IsInverse ys qs → HaveSamePlaced ps qs → HaveSame xs ys
same-held xs ys ps qs old new same w = (
  λ h. held-at ys qs w new (λ none. has-place xs ps w old h ((same w).1 none)),
  λ h. held-at xs ps w old (λ none. has-place ys qs w new h ((same w).0 none)),
)

-- where one variable lost its place, the others stand in the heap
pub others-held : (xs ys ps qs : List ℕ) (v : ℕ) → IsInverse xs ps → IsInverse ys qs → get_or qs v 0 ≡ 0 →
    ((w : ℕ) → w ≢ v → (get_or ps w 0 ≡ 0) ↔ (get_or qs w 0 ≡ 0)) → (w : ℕ) → Contains ys w ↔ (Contains xs w × (w ≢ v))
others-held xs ys ps qs v old new none same w =
    let left : Contains ys w → w ≢ v = λ h e. has-place ys qs w new h (ap (λ (u : ℕ). get_or qs u 0) e ∙ none) in (
      λ h. (held-at xs ps w old (λ lost. has-place ys qs w new h ((same w (left h)).0 lost)), left h),
      λ h. held-at ys qs w new (λ lost. has-place xs ps w old h.0 ((same w h.1).1 lost)),
    )

-- where one variable got a place, it stands in the heap with the others
pub more-held : (xs ys ps qs : List ℕ) (v : ℕ) → IsInverse xs ps → IsInverse ys qs → get_or qs v 0 ≢ 0 →
    ((w : ℕ) → w ≢ v → (get_or ps w 0 ≡ 0) ↔ (get_or qs w 0 ≡ 0)) → (w : ℕ) → Contains ys w ↔ (Contains xs w ⊎ (w ≡ v))
more-held xs ys ps qs v old new some same w = (
  λ h. elim (cases_eq w v) [
    | inl e ↦ inr e
    | inr ne ↦ inl (held-at xs ps w old (λ lost. has-place ys qs w new h ((same w ne).0 lost)))
  ],
  λ h. elim (cases_eq w v) [
    | inl e ↦ held-at ys qs w new (λ lost. some (ap (λ (u : ℕ). get_or qs u 0) (sym e) ∙ lost))
    | inr ne ↦ elim h [
      | inl held ↦ held-at ys qs w new (λ lost. has-place xs ps w old held ((same w ne).1 lost))
      | inr e ↦ absurd (ne e)
    ]
  ],
)

-- there are not more variables than places
pub fits : (xs ps : List ℕ) → IsInverse xs ps → length xs ≤ length ps
fits xs ps inverse =
    let apart : IsDistinct eqb xs = IsDistinct-from_apart eqb xs (λ i j d l m.
    ne_eqb (get_or xs i d) (get_or xs j d) (λ same.
    let once : i ≡ j = stands-once xs ps i j inverse (omega arith) m (get_or_default xs i 0 d (omega arith) ∙ same ∙ get_or_default xs j d 0 m) in
    omega arith)) in
    let below : (q : ℕ) → list_any (eqb q) xs ≡ true → q < length ps = λ q h.
    let a : Any (λ v. eqb q v ≡ true) xs = Any-from_list_any (eqb q) xs h in
    let at : get_or xs a.0 0 ≡ q = get_or_default xs a.0 0 a.1 a.2 ∙ a.3 ∙ sym (eqb-true q a.1 a.4) in
    let own : get_or ps q 0 ≡ a.0 + 1 = ap (λ (v : ℕ). get_or ps v 0) (sym at) ∙ inverse.placed a.0 a.2 in
    placed-below ps q a.0 own in
    length-le_from_distinct_below xs (length ps) apart below
