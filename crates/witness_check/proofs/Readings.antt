-- What a read of a list says.
use Rattle.std.proofs.Common.{◌≡◌, ℕ, ◌+◌, ◌<◌, inl, inr, List, length, get_or, subst, arith}
use Rattle.std.proofs.lemmas.Bool.{cases_lt}
use Rattle.std.proofs.lemmas.List.{get_or_default}

-- what holds of the items before a place and of the item at it
pub each_more : {X : Type 0} (P : X → Type 0) (xs : List X) (i : ℕ) (e : X) → i < length xs → ((k : ℕ) → k < i → (d : X) → P (get_or xs k d)) → P (get_or xs i e) →
    (k : ℕ) → k < i + 1 → (d : X) → P (get_or xs k d)
each_more {X} P xs i e within before at k less d =
    elim (cases_lt k i) [
      | inl below ↦ before k below d
      | inr above ↦ let same : i ≡ k = omega arith in
          subst (λ (j : ℕ). P (get_or xs j d)) same (subst P (get_or_default xs i e d within) at)
    ]
