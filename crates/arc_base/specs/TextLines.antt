-- The lines of a text.
use Rattle.std.specs.Prelude.{ℕ, ◌-◌, Bool, if◌then◌else◌, ◌==◌, List, [], ◌∷◌, length, take}
use Rattle.std.specs.Prelude.{slice_index}
use Rattle.std.specs.List.{onto_first}

-- a line feed ends a line
abbrev pub is_line_feed : ℕ → Bool
is_line_feed b = b == 10

-- the lines: each piece that a line feed ends, and what follows the last line feed where that is
-- not empty
abbrev pub lines : List ℕ → List (List ℕ)
lines [] = []
lines (b ∷ bytes) = if is_line_feed b then [] ∷ lines bytes else onto_first b (lines bytes)

-- a line without the carriage return at its end, where it has one
abbrev pub without_return : List ℕ → List ℕ
without_return line =
    if slice_index line (length line - 1) == 13 then take (length line - 1) line else line
