-- How lines are written: words with one space between them, and a line feed.
use Rattle.std.specs.Prelude.{ℕ, List, [], ◌∷◌, ◌++◌}

-- the words, each after a space
abbrev pub after_spaces : List (List ℕ) → List ℕ
after_spaces [] = []
after_spaces (word ∷ words) = 32 ∷ (word ++ after_spaces words)

-- the line that begins with this word and goes on with these
abbrev pub line : List ℕ → List (List ℕ) → List ℕ
line first words = first ++ after_spaces words ++ 10 ∷ []
