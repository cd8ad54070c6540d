-- Numbers that items have, held in a list that grows item by item.
use Rattle.std.proofs.Common.{◌≡◌, ℕ, ◌+◌, ◌<◌, ◌⊎◌, inl, inr, Option, Some, None, refl, List, [], ◌∷◌, ◌++◌, length, get_or, take, sym, subst}
use Rattle.std.specs.Prelude.{Any, Contains}
use Rattle.std.proofs.lemmas.List.Elements.{Contains-append_left, Contains-push, Contains-push_cases}
use Rattle.net_rules.proofs.Anys.{Any-before, Any-now, Any-either}

-- what is no value is none
pub never_some : {X : Type 0} (o : Option X) → ((x : X) → o ≡ Some x → ⊥) → o ≡ None
never_some None never = refl
never_some (Some x) never = absurd (never x refl)

-- the list with one number more
pub one_added : (old new : List ℕ) (x : ℕ) → new ≡ old ++ x ∷ [] → ((m : ℕ) → Contains new m → Contains old m ⊎ (x ≡ m)) × ((m : ℕ) → Contains old m → Contains new m) × Contains new x
one_added old new x grown = (
  λ m there. Contains-push_cases old x m (subst (λ (l : List ℕ). Contains l m) grown there),
  λ m there. subst (λ (l : List ℕ). Contains l m) (sym grown) (Contains-append_left old (x ∷ []) m there),
  subst (λ (l : List ℕ). Contains l x) (sym grown) (Contains-push old x),
)

module _ {X : Type 0} (Has : ℕ → X → Type 0) (items : List X) (n : ℕ) (item : X) (within : n < length items) (is : item ≡ get_or items n item) (old new : List ℕ) where
  -- each number of the list is one of the items'
  pub held_more : ((m : ℕ) → Contains old m → Any (Has m) (take n items)) → ((m : ℕ) → Contains new m → Contains old m ⊎ Has m item) →
      (m : ℕ) → Contains new m → Any (Has m) (take (n + 1) items)
  held_more held adds m there = elim (adds m there) [
    | inl before ↦ Any-before (Has m) items n item within is (held m before)
    | inr now ↦ Any-now (Has m) items n item within is now
  ]

  -- and the other way round
  pub holds_more : ((m : ℕ) → Any (Has m) (take n items) → Contains old m) → ((m : ℕ) → Contains old m → Contains new m) → ((m : ℕ) → Has m item → Contains new m) →
      (m : ℕ) → Any (Has m) (take (n + 1) items) → Contains new m
  holds_more holds keeps adds m some = elim (Any-either (Has m) items n item within is some) [
    | inl before ↦ keeps m (holds m before)
    | inr now ↦ adds m now
  ]
