-- A list whose items rise by a number is determined by what it contains.
use Rattle.std.proofs.Common.{◌≡◌, ℕ, ◌<◌, ◌⊎◌, inl, inr, List, [], ◌∷◌, refl, sym, ◌∙◌, ap, arith}
use Rattle.std.specs.Prelude.{Contains, AllPairs}
use Rattle.arc_base.proofs.Items.{Contains-head, Contains-tail, Contains-none, Contains-cases, AllPairs-rest, AllPairs-first}

module _ {X : Type 0} (key : X → ℕ) where
  abbrev Below : X → X → Type 0
  Below x y = key x < key y

  -- what one list has besides its first item, the other has too
  rest_in : (x y : X) (xs ys : List X) → x ≡ y → AllPairs Below (x ∷ xs) → ((p : X) → Contains (x ∷ xs) p → Contains (y ∷ ys) p) →
      (p : X) → Contains xs p → Contains ys p
  rest_in x y xs ys e rising has p there =
      elim (Contains-cases y p ys (has p (Contains-tail x p xs there))) [
        | inl f ↦ let l : key x < key p = AllPairs-first Below x p xs rising there in
            let g : key x ≡ key p = ap key (e ∙ f) in absurd (omega (arith, l, g))
        | inr later ↦ later
      ]

  first_same : (x y : X) (xs ys : List X) → AllPairs Below (x ∷ xs) → AllPairs Below (y ∷ ys) →
      (x ≡ y) ⊎ Contains xs y → (y ≡ x) ⊎ Contains ys x → x ≡ y
  first_same x y xs ys one two (inl e) other = e
  first_same x y xs ys one two (inr there) (inl e) = sym e
  first_same x y xs ys one two (inr there) (inr back) =
      let l : key x < key y = AllPairs-first Below x y xs one there in
      let m : key y < key x = AllPairs-first Below y x ys two back in absurd (omega (arith, l, m))

  pub same_rising : (xs ys : List X) → AllPairs (λ (x : X) (y : X). key x < key y) xs → AllPairs (λ (x : X) (y : X). key x < key y) ys →
      ((p : X) → Contains xs p → Contains ys p) → ((p : X) → Contains ys p → Contains xs p) → xs ≡ ys
  same_rising [] [] one two to from = refl
  same_rising [] (y ∷ ys) one two to from = absurd (Contains-none y (from y (Contains-head y ys)))
  same_rising (x ∷ xs) [] one two to from = absurd (Contains-none x (to x (Contains-head x xs)))
  same_rising (x ∷ xs) (y ∷ ys) one two to from =
      let e : x ≡ y = first_same x y xs ys one two (Contains-cases x y xs (from y (Contains-head y ys))) (Contains-cases y x ys (to x (Contains-head x xs))) in
      let rest : xs ≡ ys = same_rising xs ys (AllPairs-rest Below x xs one) (AllPairs-rest Below y ys two)
      (rest_in x y xs ys e one to) (rest_in y x ys xs (sym e) two from) in
      ap (λ (p : X). p ∷ xs) e ∙ ap (λ (l : List X). y ∷ l) rest
