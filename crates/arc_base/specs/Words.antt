-- The words of a line, which blanks part.
use Rattle.std.specs.Prelude.{ℕ, ◌==◌, ◌||◌, Bool, true, false, List, [], ◌∷◌, filter}
use Rattle.std.specs.List.{slice_split}

-- a space or a tab
abbrev pub is_blank : ℕ → Bool
is_blank b = (b == 32) || (b == 9)

-- some bytes
abbrev pub is_filled : List ℕ → Bool
is_filled [] = false
is_filled (b ∷ bytes) = true

-- the words of a line: the pieces between its blanks, except for empty ones
abbrev pub words : List ℕ → List (List ℕ)
words line = filter is_filled (slice_split is_blank line)
