-- How many items of a list pass a test, where the test changes.
use Rattle.std.proofs.Common.{◌≡◌, ◌≢◌, ℕ, zero, suc, ◌+◌, ◌≤◌, Bool, true, false, ◌&&◌, cond, inl, inr, List, [], ◌∷◌, slice_get, refl, ap, sym, ◌∙◌, arith, Some, count_by, add-zero}
use Rattle.std.specs.Prelude.{◌==◌}
use Rattle.std.proofs.lemmas.Bool.{cases_eq, cases_Bool, and_left}
use Rattle.std.proofs.lemmas.Option.{none-some, same_Some}
use Rattle.std.proofs.lemmas.List.Sums.{sum_by-cons}
use Rattle.cnf_types.specs.declared.literal.Lit.{Lit}
use Rattle.cnf_types.specs.Literals.{negated, variable}
use Rattle.sat_core.specs.declared.assigned.Assigned.{Assigned}
use Rattle.sat_search.specs.Passes.{is_marked, is_open, open_in}
use Rattle.sat_search.proofs.Literals.{same_negated}
use Rattle.sat_search.proofs.Trails.{AreDistinct}

-- one or nothing
abbrev pub once : Bool → ℕ
once b = cond b 1 0

module _ {X : Type 0} (p q : X → Bool) where
  count-cons : (r : X → Bool) (x : X) (xs : List X) → count_by r (x ∷ xs) ≡ once (r x) + count_by r xs
  count-cons r x xs = sum_by-cons (λ (y : X). cond (r y) 1 0) x xs

  -- tests that agree on the items count the same
  pub count_same : (xs : List X) → ((k : ℕ) (x : X) → slice_get xs k ≡ Some x → p x ≡ q x) → count_by p xs ≡ count_by q xs
  count_same [] agree = refl
  count_same (x ∷ xs) agree =
      omega (arith, count-cons p x xs, count-cons q x xs, ap once (agree 0 x refl), count_same xs (λ k y at. agree (suc k) y at))

  -- they differ at one place
  pub count_one_more : (xs : List X) (i : ℕ) (x : X) → slice_get xs i ≡ Some x → p x ≡ false → q x ≡ true →
      ((k : ℕ) (y : X) → slice_get xs k ≡ Some y → k ≢ i → p y ≡ q y) → count_by q xs ≡ count_by p xs + 1
  count_one_more [] i x at no_before yes_after agree = absurd (none-some x at)
  count_one_more (y ∷ ys) zero x at no_before yes_after agree =
      let is : y ≡ x = same_Some y x at in
      omega (arith, count-cons p y ys, count-cons q y ys, ap once (ap p is ∙ no_before), ap once (ap q is ∙ yes_after), count_same ys (λ k z there. agree (suc k) z there (λ e. absurd (omega arith))))
  count_one_more (y ∷ ys) (suc i) x at no_before yes_after agree =
      omega (
        arith,
        count-cons p y ys,
        count-cons q y ys,
        ap once (agree 0 y refl (λ e. absurd (omega arith))),
        count_one_more ys i x at no_before yes_after
            (λ k z there apart. agree (suc k) z there (λ e. apart (omega arith))),
      )

  once_le : (a b : Bool) → (a ≡ true → b ≡ true) → once a ≤ once b
  once_le true b h = omega (arith, ap once (h refl))
  once_le false b h = omega arith

  -- a test that passes more counts more
  pub count_le : (xs : List X) → ((k : ℕ) (x : X) → slice_get xs k ≡ Some x → p x ≡ true → q x ≡ true) → count_by p xs ≤ count_by q xs
  count_le [] more = omega arith
  count_le (x ∷ xs) more =
      omega (arith, count-cons p x xs, count-cons q x xs, once_le (p x) (q x) (more 0 x refl), count_le xs (λ k y at. more (suc k) y at))

-- some item passes
pub count_some : {X : Type 0} (p : X → Bool) (xs : List X) (k : ℕ) (x : X) → slice_get xs k ≡ Some x → p x ≡ true → 1 ≤ count_by p xs
count_some p [] k x at passes = absurd (none-some x at)
count_some p (y ∷ ys) zero x at passes = omega (arith, sum_by-cons (λ z. cond (p z) 1 0) y ys, ap once (ap p (same_Some y x at) ∙ passes))
count_some p (y ∷ ys) (suc k) x at passes = omega (arith, sum_by-cons (λ z. cond (p z) 1 0) y ys, count_some p ys k x at passes)

once-none : (b : Bool) → (b ≡ true → ⊥) → once b ≡ 0
once-none true h = absurd (h refl)
once-none false h = refl

-- or none does
pub count_none : {X : Type 0} (p : X → Bool) (xs : List X) → ((k : ℕ) (x : X) → slice_get xs k ≡ Some x → p x ≡ true → ⊥) → count_by p xs ≡ 0
count_none p [] fails = refl
count_none p (x ∷ xs) fails = omega (arith, sum_by-cons (λ z. cond (p z) 1 0) x xs, once-none (p x) (fails 0 x refl), count_none p xs (λ k y at. fails (suc k) y at))

-- marks that differ at one literal alone, which some entry makes false
pub open_one_more : (level : ℕ) (trail : List Assigned) (flags more : List Bool) (m : Lit) (j : ℕ) (b : Assigned) → AreDistinct trail → slice_get trail j ≡ Some b → negated b.lit ≡ m →
    is_marked flags m ≡ false → is_marked more m ≡ true → ((n : Lit) → n ≢ m → is_marked flags n ≡ is_marked more n) →
    open_in level trail more ≡ open_in level trail flags + once (b.level == level)
open_one_more level trail flags more m j b distinct at is no_before yes_after others =
    let elsewhere : (k : ℕ) (e : Assigned) → slice_get trail k ≡ Some e → k ≢ j → is_open level flags e ≡ is_open level more e =
    λ k e there apart. ap (λ (c : Bool). (e.level == level) && c)
    (others (negated e.lit) (λ same_one. apart (distinct k j e b there at (ap variable (same_negated e.lit b.lit (same_one ∙ sym is)))))) in
    elim (cases_Bool (b.level == level)) [
      | inl yes_level ↦
          let none : is_open level flags b ≡ false = ap (λ (c : Bool). c && is_marked flags (negated b.lit)) yes_level ∙ ap (is_marked flags) is ∙ no_before in
          let one : is_open level more b ≡ true = ap (λ (c : Bool). c && is_marked more (negated b.lit)) yes_level ∙ ap (is_marked more) is ∙ yes_after in
          count_one_more (is_open level flags) (is_open level more) trail j b at none one elsewhere ∙ ap (λ (c : Bool). open_in level trail flags + once c) (sym yes_level)
      | inr no_level ↦
          let at_all : (k : ℕ) (e : Assigned) → slice_get trail k ≡ Some e → is_open level flags e ≡ is_open level more e = λ k e there. elim (cases_eq k j) [
            | inl here ↦
                let is_entry : b ≡ e = same_Some b e (sym at ∙ ap (slice_get trail) (sym here) ∙ there) in
                let off : (e.level == level) ≡ false = ap (λ (x : Assigned). x.level == level) (sym is_entry) ∙ no_level in
                and_left (e.level == level) (is_marked flags (negated e.lit)) off ∙ sym (and_left (e.level == level) (is_marked more (negated e.lit)) off)
            | inr apart ↦ elsewhere k e there apart
          ] in
          sym (count_same (is_open level flags) (is_open level more) trail at_all) ∙ sym (add-zero (open_in level trail flags)) ∙ ap (λ (c : Bool). open_in level trail flags + once c) (sym no_level)
    ]
