-- A list that holds just some things in an order is determined.
use Rattle.std.proofs.Common.{◌≡◌, ℕ, inl, inr, List, [], ◌∷◌, refl, sym, ◌∙◌, ap, subst, arith}
use Rattle.std.specs.Prelude.{AllPairs, Contains}
use Rattle.std.specs.Cmp.Lexicographic.{nat_list_cmp_total}
use Rattle.std.specs.Ordering.{ordering_reverse}
use Rattle.std.specs.declared.cmp.Ordering.{Ordering}
use Rattle.std.specs.declared.cmp.Ordering.TheVariants.{Less, Greater}
use Rattle.net_rules.specs.Ordered.{AreInOrder, IsPairBefore}
use Rattle.arc_base.specs.NameForms.{IsNameBefore}
use Rattle.arc_base.proofs.Items.{Contains-head, Contains-tail, Contains-cases, Contains-none}
use Rattle.net_rules.proofs.Distinct.{AllPairs-back, AllPairs-between}

module _ {X : Type 0} (IsBefore : X → X → Type 0) where
  head_before : (x : X) (xs : List X) → AllPairs IsBefore (x ∷ xs) → (y : X) → Contains xs y → IsBefore x y
  head_before x xs all y there = AllPairs-between IsBefore (x ∷ []) xs x y all (Contains-head x []) there

  same_lists : (xs ys : List X) → ((x y : X) → Contains xs x → Contains xs y → IsBefore x y → IsBefore y x → ⊥) → AllPairs IsBefore xs → AllPairs IsBefore ys →
      ((z : X) → Contains xs z → Contains ys z) → ((z : X) → Contains ys z → Contains xs z) → xs ≡ ys
  same_lists [] [] asym of_x of_y to from = refl
  same_lists [] (y ∷ ys) asym of_x of_y to from = absurd (Contains-none y (from y (Contains-head y ys)))
  same_lists (x ∷ xs) [] asym of_x of_y to from = absurd (Contains-none x (to x (Contains-head x xs)))
  same_lists (x ∷ xs) (y ∷ ys) asym of_x of_y to from =
      let head : x ≡ y = heads in
      let tails : xs ≡ ys = same_lists xs ys (λ u v in_u in_v. asym u v (Contains-tail x u xs in_u) (Contains-tail x v xs in_v)) (AllPairs-back IsBefore (x ∷ []) xs of_x)
      (AllPairs-back IsBefore (y ∷ []) ys of_y)
      (λ z there. later_to z there) (λ z there. later_from z there) in
      λ i. head i ∷ tails i
    where
      heads : x ≡ y
      heads = elim (Contains-cases y x ys (to x (Contains-head x xs))) [
        | inl same ↦ sym same
        | inr x_later ↦ elim (Contains-cases x y xs (from y (Contains-head y ys))) [
          | inl same ↦ same
          | inr y_later ↦ absurd (asym x y (Contains-head x xs) (Contains-tail x y xs y_later) (head_before x xs of_x y y_later) (head_before y ys of_y x x_later))
        ]
      ]

      not_again : (z : X) → Contains xs z → x ≡ z → ⊥
      not_again z there same =
          let before : IsBefore x z = head_before x xs of_x z there in
          let twice : IsBefore x x = subst (λ (w : X). IsBefore x w) (sym same) before in
          asym x x (Contains-head x xs) (Contains-head x xs) twice twice

      not_again_y : (z : X) → Contains ys z → y ≡ z → ⊥
      not_again_y z there same =
          let before : IsBefore y z = head_before y ys of_y z there in
          let twice : IsBefore y y = subst (λ (w : X). IsBefore y w) (sym same) before in
          let in_x : Contains (x ∷ xs) y = from y (Contains-head y ys) in
          asym y y in_x in_x twice twice

      later_to : (z : X) → Contains xs z → Contains ys z
      later_to z there = elim (Contains-cases y z ys (to z (Contains-tail x z xs there))) [
        | inl same ↦ absurd (not_again z there (heads ∙ same))
        | inr later ↦ later
      ]

      later_from : (z : X) → Contains ys z → Contains xs z
      later_from z there = elim (Contains-cases x z xs (from z (Contains-tail y z ys there))) [
        | inl same ↦ absurd (not_again_y z there (sym heads ∙ same))
        | inr later ↦ later
      ]

  -- two lists of the same things in one order are the same
  pub ordered_once : (P : X → Type 0) → ((x y : X) → P x → P y → IsBefore x y → IsBefore y x → ⊥) → (xs ys : List X) → AreInOrder IsBefore P xs → AreInOrder IsBefore P ys → xs ≡ ys
  ordered_once P asym xs ys of_x of_y =
      same_lists xs ys (λ x y in_x in_y. asym x y ((of_x.just x).0 in_x) ((of_x.just y).0 in_y)) of_x.order of_y.order
      (λ z there. (of_y.just z).1 ((of_x.just z).0 there)) (λ z there. (of_x.just z).1 ((of_y.just z).0 there))

less_is_not_greater : Less ≡ Greater → ⊥
less_is_not_greater e = subst (λ (o : Ordering). IsLess o) e tt
  where
    IsLess : Ordering → Type 0
    IsLess Less = Unit {0}
    IsLess other = ⊥

pub names_one_way : (x y : List ℕ) → IsNameBefore x y → IsNameBefore y x → ⊥
names_one_way x y before after =
    less_is_not_greater (sym after ∙ nat_list_cmp_total.antisymm y x ∙ ap ordering_reverse before)

pub pairs_one_way : {X : Type 0} (IsBefore : X → X → Type 0) → ((x y : X) → IsBefore x y → IsBefore y x → ⊥) → (x y : ℕ × X) → IsPairBefore IsBefore x y → IsPairBefore IsBefore y x → ⊥
pairs_one_way IsBefore one x y (inl h) (inl g) = omega (arith, h, g)
pairs_one_way IsBefore one x y (inl h) (inr (e, g)) = omega (arith, h, e)
pairs_one_way IsBefore one x y (inr (e, h)) (inl g) = omega (arith, e, g)
pairs_one_way IsBefore one x y (inr (e, h)) (inr (f, g)) = one x.1 y.1 h g
