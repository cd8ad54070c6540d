-- Lists that hold just the items with a property, in an order.
use Rattle.std.specs.Prelude.{◌≡◌, ◌↔◌, ℕ, ◌<◌, ◌⊎◌, List, AllPairs, Contains}

-- the list is in this order, and holds just the items that have the property
pub record AreInOrder {X : Type 0} (IsBefore : X → X → Type 0) (P : X → Type 0)
    (xs : List X) : Type 0 where
  pub order : AllPairs IsBefore xs
  pub just : (x : X) → Contains xs x ↔ P x

-- the pair comes before the other: by its first number, and then by what says so of the second
-- parts
abbrev pub IsPairBefore : {X : Type 0} → (X → X → Type 0) → ℕ × X → ℕ × X → Type 0
IsPairBefore IsBefore x y = (x.0 < y.0) ⊎ ((x.0 ≡ y.0) × IsBefore x.1 y.1)
