-- Lists put in order by their keys.
use Rattle.std.proofs.Common.{◌≡◌, ◌≢◌, ℕ, ◌<◌, ◌⊎◌, ◌↔◌, inl, inr, Bool, true, false, cond, List, length, get_or, refl, sym, ◌∙◌, ap, arith, nat_lt, ◌==◌}
use Rattle.std.specs.Prelude.{AllPairs, Contains}
use Rattle.std.specs.Cmp.{IsTotalOrder, then_total, on_total, nat_cmp_total, eq_by_cmp_equiv}
use Rattle.std.specs.Cmp.Lexicographic.{slice_cmp, on_texts}
use Rattle.std.specs.Ordering.{nat_cmp, ordering_then, ordering_reverse, is_lt, is_eq, eq_by_cmp}
use Rattle.std.specs.declared.cmp.Ordering.{Ordering}
use Rattle.std.specs.declared.cmp.Ordering.TheVariants.{Less, Equal, Greater}
use Rattle.std.specs.List.Sorted.{IsSortedBy, IsPermutation}
use Rattle.std.proofs.lemmas.Bool.{false≢true, ltb-true, eqb-true}
use Rattle.std.proofs.lemmas.List.Sorted.{ranks_by, sorted_far, Contains-permutation, IsPermutation-sym}
use Rattle.std.proofs.lemmas.Map.Keys.{IsDistinct-IsPermutation, IsDistinct-from_apart, apart_from_distinct}
use Rattle.std.proofs.lemmas.Map.Lookups.{exact_bytes}
use Rattle.edit_space.proofs.NameSets.{equal_to_itself}
use Rattle.edit_space.specs.declared.order.Keyed.{Keyed}
use Rattle.edit_list.specs.Ordered.{Key, IsKeyBefore}
use Rattle.edit_space.specs.Working.{key_of, compare_keys}

pub keys_total : IsTotalOrder compare_keys
keys_total = then_total (on_total (λ (k : Key). k.0) nat_cmp_total) (on_texts (λ (k : Key). k.1))

less_or : (a : Ordering) → a ≡ Less → Greater ≡ a → ⊥
less_or a e f = cc

-- how two numbers compare
number_cases : (x y : ℕ) → ((nat_cmp x y ≡ Less) × (x < y)) ⊎ (((nat_cmp x y ≡ Equal) × (x ≡ y)) ⊎ (nat_cmp x y ≡ Greater))
number_cases x y = by (nat_lt x y) refl (x == y) refl
  where
    by : (b : Bool) → nat_lt x y ≡ b → (c : Bool) → (x == y) ≡ c → ((nat_cmp x y ≡ Less) × (x < y)) ⊎ (((nat_cmp x y ≡ Equal) × (x ≡ y)) ⊎ (nat_cmp x y ≡ Greater))
    by true e c f = inl (ap (λ t. cond t Less (cond (x == y) Equal Greater)) e, ltb-true x y e)
    by false e true f = inr (inl (ap (λ t. cond t Less (cond (x == y) Equal Greater)) e ∙ ap (λ t. cond t Equal Greater) f, eqb-true x y f))
    by false e false f = inr (inr (ap (λ t. cond t Less (cond (x == y) Equal Greater)) e ∙ ap (λ t. cond t Equal Greater) f))

pub before_from_less : (x y : Key) → compare_keys x y ≡ Less → IsKeyBefore x y
before_from_less x y less =
    elim (number_cases x.0 y.0) [
      | inl lower ↦ inl lower.1
      | inr (inl same) ↦ inr (same.1, sym (ap (λ o. ordering_then o (slice_cmp nat_cmp x.1 y.1)) same.0) ∙ less)
      | inr (inr greater) ↦ absurd (less_or (compare_keys x y) less (sym (ap (λ o. ordering_then o (slice_cmp nat_cmp x.1 y.1)) greater)))
    ]

equal_or : (a : Ordering) → a ≡ Equal → Greater ≡ a → ⊥
equal_or a e f = cc

equal_or_less : (a : Ordering) → a ≡ Equal → Less ≡ a → ⊥
equal_or_less a e f = cc

pub same_from_equal : (x y : Key) → compare_keys x y ≡ Equal → x ≡ y
same_from_equal x y equal =
    elim (number_cases x.0 y.0) [
      | inl lower ↦ absurd (equal_or_less (compare_keys x y) equal (sym (ap (λ o. ordering_then o (slice_cmp nat_cmp x.1 y.1)) lower.0)))
      | inr (inl same) ↦
          let names : x.1 ≡ y.1 = exact_bytes x.1 y.1 (sym (ap (λ o. ordering_then o (slice_cmp nat_cmp x.1 y.1)) same.0) ∙ equal) in
          let numbers : x.0 ≡ y.0 = same.1 in
          λ i. (numbers i, names i)
      | inr (inr greater) ↦ absurd (equal_or (compare_keys x y) equal (sym (ap (λ o. ordering_then o (slice_cmp nat_cmp x.1 y.1)) greater)))
    ]

module _ (xs sorted : List Keyed) (moved : IsPermutation xs sorted) (up : IsSortedBy (λ x y. is_lt (compare_keys (key_of x) (key_of y))) sorted)
    (apart : AllPairs (λ x y. key_of x ≢ key_of y) xs) where
  not_equal : (o : Ordering) → (o ≡ Equal → ⊥) → is_eq o ≡ false
  not_equal Less h = refl
  not_equal Equal h = absurd (h refl)
  not_equal Greater h = refl

  sorted_apart : (i j : ℕ) (d : Keyed) → i < j → j < length sorted → eq_by_cmp compare_keys (key_of (get_or sorted i d)) (key_of (get_or sorted j d)) ≡ false
  sorted_apart i j d l m =
      apart_from_distinct (λ x y. eq_by_cmp compare_keys (key_of x) (key_of y)) sorted i j d
      (IsDistinct-IsPermutation (λ x y. eq_by_cmp compare_keys (key_of x) (key_of y)) (λ x y. (eq_by_cmp_equiv keys_total).symm (key_of x) (key_of y)) xs sorted moved
      (IsDistinct-from_apart (λ x y. eq_by_cmp compare_keys (key_of x) (key_of y)) xs
      (λ a b e k n. not_equal (compare_keys (key_of (get_or xs a e)) (key_of (get_or xs b e))) (λ q. apart a b e k n (same_from_equal (key_of (get_or xs a e)) (key_of (get_or xs b e)) q))))) l m

  by_cases : (x y : Key) (o : Ordering) → compare_keys x y ≡ o → is_lt (compare_keys y x) ≡ false → is_eq (compare_keys x y) ≡ false → IsKeyBefore x y
  by_cases x y Less e not_after differ = before_from_less x y e
  by_cases x y Equal e not_after differ = absurd (false≢true (sym differ ∙ ap is_eq e))
  by_cases x y Greater e not_after differ = absurd (false≢true (sym not_after ∙ ap is_lt (keys_total.antisymm y x ∙ ap ordering_reverse e)))

  pub in_key_order : AllPairs (λ x y. IsKeyBefore (key_of x) (key_of y)) sorted
  in_key_order i j d l m =
      by_cases (key_of (get_or sorted i d)) (key_of (get_or sorted j d)) (compare_keys (key_of (get_or sorted i d)) (key_of (get_or sorted j d))) refl
      (sorted_far (λ x y. is_lt (compare_keys (key_of x) (key_of y))) (ranks_by keys_total key_of) sorted up i j d (omega (arith, l)) m) (sorted_apart i j d l m)

pub same_lists : (xs sorted : List Keyed) → IsPermutation xs sorted → (x : Keyed) → Contains sorted x ↔ Contains xs x
same_lists xs sorted moved x = (Contains-permutation sorted xs x (IsPermutation-sym xs sorted moved), Contains-permutation xs sorted x moved)

-- no key comes before itself
pub not_before_itself : (key : Key) → IsKeyBefore key key → ⊥
not_before_itself key (inl lower) = omega (arith, lower)
not_before_itself key (inr (same, before)) = equal_or_less (slice_cmp nat_cmp key.1 key.1) (equal_to_itself key.1) (sym before)
