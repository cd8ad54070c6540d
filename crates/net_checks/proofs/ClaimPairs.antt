-- A claim and the two before it.
use Rattle.std.proofs.Common.{◌≡◌, ℕ, ◌+◌, ◌-◌, ◌<◌, ◌≤◌, inl, inr, List, length, get_or, sym, ◌∙◌, subst, arith}
use Rattle.std.proofs.lemmas.Bool.{cases_lt}
use Rattle.std.proofs.lemmas.List.{get_or_default}
use Rattle.std.proofs.lemmas.List.Elements.{pair_read}
use Rattle.net_checks.specs.declared.claims.Claim.{Claim}
use Rattle.net_checks.specs.Claims.{AreLinkedOrApart}
use Rattle.net_checks.specs.Sorting.{IsPackedAt}

module _ (claims : List Claim) (j : ℕ) (y : Claim) (within : j < length claims) (at_j : y ≡ get_or claims j y) where
  free_at : (i : ℕ) (x : Claim) → i < j → x ≡ get_or claims i x → AreLinkedOrApart x y → (d : Claim) → AreLinkedOrApart (get_or claims i d) (get_or claims j d)
  free_at i x above at_i free = pair_read claims AreLinkedOrApart i j x y (omega (arith, above, within)) within at_i at_j free

  -- a later one has two
  pub packed_after_two : (x z : Claim) → 2 ≤ j → x ≡ get_or claims (j - 1) x → AreLinkedOrApart x y → z ≡ get_or claims (j - 2) z → AreLinkedOrApart z y → IsPackedAt claims j
  packed_after_two x z some at_x near_free at_z far_free i d above near = elim (cases_lt (i + 1) j) [
    | inl far ↦
        let is : j - 2 ≡ i = omega (arith, far, near) in
        subst (λ (k : ℕ). AreLinkedOrApart (get_or claims k d) (get_or claims j d)) is (free_at (j - 2) z (omega (arith, some)) at_z far_free d)
    | inr close ↦
        let is : j - 1 ≡ i = omega (arith, close, above) in
        subst (λ (k : ℕ). AreLinkedOrApart (get_or claims k d) (get_or claims j d)) is (free_at (j - 1) x (omega (arith, some)) at_x near_free d)
  ]

  -- what is said of the one is said of either
  pub from_packed : (i : ℕ) (x : Claim) → i < j → j ≤ i + 2 → x ≡ get_or claims i x → IsPackedAt claims j → AreLinkedOrApart x y
  from_packed i x above near at_i packed =
      subst (λ (v : Claim). AreLinkedOrApart v y) (sym at_i)
      (subst (λ (w : Claim). AreLinkedOrApart (get_or claims i x) w) (sym (at_j ∙ get_or_default claims j y x within)) (packed i x above near))
