-- What is added to the indexes that are kept while the files are gone through.
use Rattle.std.specs.Prelude.{◌≡◌, ℕ, Option, Some, None, IsSomeAnd, List, [], Contains}
use Rattle.std.specs.Prelude.{MatchOption, ◌⊎◌, ◌≤◌, nat_lt, ◌==◌, if◌then◌else◌}
use Rattle.ios_config.specs.declared.settings.Given.{Given}

-- the area at the lesser line
abbrev pub sooner : Option (Given ℕ) → Given ℕ → Given ℕ
sooner None y = y
sooner (Some x) y = if nat_lt y.line x.line then y else x

-- the area is one of these at the least line, or there are none
abbrev pub IsSoonest : List (Given ℕ) → Option (Given ℕ) → Type 0
IsSoonest areas found =
    MatchOption found (areas ≡ []) (λ g.
    Contains areas g × ((other : Given ℕ) → Contains areas other → g.line ≤ other.line))

-- the line of the area, where it is another than this
abbrev pub line_of_other : ℕ → Given ℕ → Option ℕ
line_of_other area given = if given.value == area then None else Some given.line

-- the number is the one that is given
abbrev pub IsGiven : Option (Given ℕ) → ℕ → Type 0
IsGiven given n = IsSomeAnd given (λ g. g.value ≡ n)

-- the number that is given was added, if there is one and it is new; else this is the line that
-- gives it
abbrev pub AddsGiven : List ℕ → List ℕ → Option (Given ℕ) → Option ℕ → Type 0
AddsGiven old new given found =
    MatchOption found (((n : ℕ) → IsGiven given n → ¬ Contains old n)
    × ((n : ℕ) → Contains new n → Contains old n ⊎ IsGiven given n)
    × ((n : ℕ) → Contains old n → Contains new n) × ((n : ℕ) → IsGiven given n → Contains new n))
    (λ line. (g : Given ℕ) × (given ≡ Some g) × (line ≡ g.line) × Contains old g.value)
