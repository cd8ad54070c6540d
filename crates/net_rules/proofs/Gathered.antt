-- What is gathered from the items of a list, one after another: it holds of some item.
use Rattle.std.proofs.Common.{◌≡◌, ℕ, ◌+◌, ◌<◌, ◌≤◌, ◌⊎◌, inl, inr, List, [], length, get_or, take, subst, ◌∙◌, ◌↔◌}
use Rattle.std.specs.Prelude.{Any}
use Rattle.std.proofs.lemmas.List.{take_all}
use Rattle.net_rules.proofs.Anys.{Any-none, Any-before, Any-now, Any-either}

module _ {X : Type 0} (P : X → Type 0) where
  -- before any item
  pub gathered_none : (Now : Type 0) → ¬ Now → Now ↔ Any P []
  gathered_none Now none = (λ h. absurd (none h), λ h. absurd (Any-none P h))

  -- one more item
  pub gathered_more : (xs : List X) (n : ℕ) (x : X) → n < length xs → x ≡ get_or xs n x → (Was Now : Type 0) → Was ↔ Any P (take n xs) → Now ↔ (Was ⊎ P x) → Now ↔ Any P (take (n + 1) xs)
  gathered_more xs n x within is Was Now was now = (λ h. to (now.0 h), λ h. now.1 (from (Any-either P xs n x within is h)))
    where
      to : Was ⊎ P x → Any P (take (n + 1) xs)
      to (inl h) = Any-before P xs n x within is (was.0 h)
      to (inr h) = Any-now P xs n x within is h

      from : Any P (take n xs) ⊎ P x → Was ⊎ P x
      from (inl h) = inl (was.1 h)
      from (inr h) = inr h

  -- all items
  pub gathered_all : (xs ys : List X) (n : ℕ) → length xs ≤ n → xs ≡ ys → (Now : Type 0) → Now ↔ Any P (take n xs) → Now ↔ Any P ys
  gathered_all xs ys n past same Now now = subst (λ (l : List X). Now ↔ Any P l) (take_all n xs past ∙ same) now
