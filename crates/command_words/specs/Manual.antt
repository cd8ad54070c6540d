-- What the words give, as a manual page has it: a relation, beside the function of `Words`.
use Rattle.std.specs.Prelude.{◌≡◌, ◌⊎◌, ℕ, true, ◌==◌, List, [], ◌∷◌, ◌++◌, map, codes}
use Rattle.std.specs.List.{list_any}
use Rattle.command_words.specs.Words.{Given, names_one, option, positional}

-- a word that may be a value by itself: it is `-`, or does not begin with a hyphen
abbrev pub IsText : List ℕ → Type 0
IsText word = (word ≡ codes "-") ⊎ ((rest : List ℕ) → word ≡ codes "-" ++ rest → ⊥)

-- a name that can be separated from a value after it
abbrev pub has_equals : List ℕ → Type 0
has_equals name = list_any (λ byte. byte == 61) name ≡ true

-- the words give this to a command with options of these names
pub data Gives : List (List ℕ) → List (List ℕ) → List Given → Type 0 where
  -- the rows of a list of clauses: those of the clauses come after one that has none
  no_words : {options : List (List ℕ)} → Gives options [] []
  -- a text is a positional word
  stands : {options : List (List ℕ)} {word : List ℕ} {words : List (List ℕ)} {given : List Given} →
      IsText word → Gives options words given
      → Gives options (word ∷ words) (positional word ∷ given)
  -- `--NAME=VALUE`, whatever the value is
  beside : {options : List (List ℕ)} {word name value : List ℕ} {words : List (List ℕ)}
      {given : List Given} → names_one options name ≡ true → (has_equals name → ⊥)
      → word ≡ codes "--" ++ (name ++ (codes "=" ++ value))
      → Gives options words given → Gives options (word ∷ words) (option name value ∷ given)
  -- `--NAME VALUE`, where the value is a text
  apart : {options : List (List ℕ)} {word name value : List ℕ} {words : List (List ℕ)}
      {given : List Given} → names_one options name ≡ true → (has_equals name → ⊥) → (name ≡ [] → ⊥)
      → word ≡ codes "--" ++ name → IsText value
      → Gives options words given → Gives options (word ∷ value ∷ words) (option name value ∷ given)
  -- after `--` every word is positional
  after : {options : List (List ℕ)} {words : List (List ℕ)} →
      Gives options (codes "--" ∷ words) (map positional words)
