-- Lines, and how they are cut off the front of a text.
use Rattle.std.specs.Prelude.{◌≡◌, ◌≢◌, ◌⊎◌, ℕ, ◌<◌, Bool, true, false, List, [], ◌∷◌, ◌++◌, All}
use Rattle.std.specs.Prelude.{length}

-- no byte is a line feed
abbrev pub IsUnbroken : List ℕ → Type 0
IsUnbroken line = All (λ b. b ≢ 10) line

-- The first line of a text, and what follows it. A line feed ends the line and belongs to none;
-- what follows the last line feed is a line where it has a byte.
pub record IsFirstLine (text line rest : List ℕ) : Type 0 where
  pub unbroken : IsUnbroken line
  pub split : (text ≡ line ++ 10 ∷ rest) ⊎ ((text ≡ line) × ((0 < length line) × (rest ≡ [])))

-- The front of a text is taken up to the end of its first line: up to its first line feed, or the
-- whole of a text without one.
abbrev pub TakesFront : List ℕ → List ℕ → List ℕ → List ℕ → Bool → Type 0
TakesFront text line longer rest true =
    (front : List ℕ) × (IsUnbroken front × ((longer ≡ line ++ front) × (text ≡ front ++ 10 ∷ rest)))
TakesFront text line longer rest false = IsUnbroken text × ((longer ≡ line ++ text) × (rest ≡ []))
