-- The least number with a property.
use Rattle.std.specs.Prelude.{ℕ, ◌≤◌, min, Option, Some, None, MatchOption}

-- the number is the least with the property
pub record IsLeast (P : ℕ → Type 0) (n : ℕ) : Type 0 where
  pub has : P n
  pub least : (m : ℕ) → P m → n ≤ m

-- what was found is the least number with the property, or that there is none
abbrev pub FindsLeast : (ℕ → Type 0) → Option ℕ → Type 0
FindsLeast P found = MatchOption found ((n : ℕ) → ¬ P n) (IsLeast P)

-- the lesser of two numbers that were found or not
abbrev pub lesser : Option ℕ → Option ℕ → Option ℕ
lesser None b = b
lesser (Some m) None = Some m
lesser (Some m) (Some n) = Some (min m n)
