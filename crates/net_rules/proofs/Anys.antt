-- Facts of some item of a list, as loops meet them.
use Rattle.std.proofs.Common.{◌≡◌, ℕ, zero, suc, ◌+◌, ◌<◌, ◌⊎◌, inl, inr, List, [], ◌∷◌, ◌++◌, length, get_or, take, sym, ◌∙◌, ap, subst, arith}
use Rattle.std.specs.Prelude.{Any}
use Rattle.std.proofs.lemmas.List.{take_more, get_or_append_left, length-append}
use Rattle.std.proofs.lemmas.List.Quantifiers.{Any-push}

pub Any-none : {X : Type 0} (P : X → Type 0) → ¬ Any P []
Any-none P (k, x, l, e, p) = absurd (omega (arith, l))

pub Any-left : {X : Type 0} (P : X → Type 0) (xs ys : List X) → Any P xs → Any P (xs ++ ys)
Any-left P xs ys (k, x, l, e, p) = (k, x, omega (arith, length-append xs ys, l), get_or_append_left xs ys x k l ∙ e, p)

pub Any-last : {X : Type 0} (P : X → Type 0) (xs : List X) (y : X) → Any P (xs ++ y ∷ []) → Any P xs ⊎ P y
Any-last P [] y (zero, x, l, e, p) = inr (subst P (sym e) p)
Any-last P [] y (suc k, x, l, e, p) = absurd (omega (arith, l))
Any-last P (z ∷ xs) y (zero, x, l, e, p) = inl (zero, x, omega arith, e, p)
Any-last P (z ∷ xs) y (suc k, x, l, e, p) = elim (Any-last P xs y (k, x, omega (arith, l), e, p)) [
  | inl later ↦ inl (suc later.0, later.1, omega (arith, later.2), later.3, later.4)
  | inr last ↦ inr last
]

module _ {X : Type 0} (P : X → Type 0) (xs : List X) (n : ℕ) (x : X) (within : n < length xs) (is : x ≡ get_or xs n x) where
  pub grown : take (n + 1) xs ≡ take n xs ++ x ∷ []
  grown = take_more xs n x within ∙ ap (λ (y : X). take n xs ++ y ∷ []) (sym is)

  pub Any-before : Any P (take n xs) → Any P (take (n + 1) xs)
  Any-before h = subst (λ (l : List X). Any P l) (sym grown) (Any-left P (take n xs) (x ∷ []) h)

  pub Any-now : P x → Any P (take (n + 1) xs)
  Any-now p = subst (λ (l : List X). Any P l) (sym grown) (Any-push P (take n xs) x p)

  pub Any-either : Any P (take (n + 1) xs) → Any P (take n xs) ⊎ P x
  Any-either h = Any-last P (take n xs) x (subst (λ (l : List X). Any P l) grown h)
