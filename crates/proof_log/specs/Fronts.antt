-- The first word of a line.
use Rattle.std.specs.Prelude.{◌≡◌, ◌⊎◌, ℕ, ◌<◌, ℤ, List, [], ◌∷◌, length, Option}
use Rattle.arc_base.specs.Words.{words}
use Rattle.proof_log.specs.Reading.{log_number}

-- what follows a word: a space and the rest of the line, or nothing
abbrev pub EndsWord : List ℕ → List ℕ → Type 0
EndsWord behind rest = (behind ≡ 32 ∷ rest) ⊎ ((behind ≡ []) × (rest ≡ []))

-- the first word of a line, with the rest of the line, writes this number, or none
pub record IsFirstNumber (line : List ℕ) (number : Option ℤ) (rest : List ℕ) : Type 0 where
  pub word : List ℕ
  pub words_are : words line ≡ word ∷ words rest
  pub number_is : log_number word ≡ number
  pub shorter : length rest < length line
