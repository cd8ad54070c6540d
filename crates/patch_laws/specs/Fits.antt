-- What may be added to a text so that it is cut into the lines that were meant.
use Rattle.std.specs.Prelude.{◌≡◌, ℕ, ◌==◌, ◌<◌, ◌&&◌, ◌⊎◌, Bool, true, false, List, [], ◌∷◌}
use Rattle.std.specs.Prelude.{length, if◌then◌else◌}
use Rattle.std.specs.List.{AllByRecursion, enumerate_from}
use Rattle.ios_lines.specs.declared.line.Line.{Line}
use Rattle.ios_lines.specs.declared.line.Lines.{Lines}
use Rattle.ios_lines.specs.Ended.{Ended, IsEnded, IsFree, HasNoReturn, AreEnded}
use Rattle.arc_base.specs.Numbered.{of_number}
use Rattle.line_patcher.specs.declared.additions.NewNumber.{NewNumber}
use Rattle.line_patcher.specs.Patches.{end_of, line_end, row_bytes}

-- a line that may be added: no byte of it ends it
pub record IsFit (line : List ℕ) : Type 0 where
  pub free : IsFree line
  pub no_return : HasNoReturn line
  pub some : 0 < length line

-- what may end lines
abbrev pub IsLineEnd : List ℕ → Type 0
IsLineEnd end = (end ≡ 10 ∷ []) ⊎ (end ≡ 13 ∷ 10 ∷ [])

-- whether a line ends with a carriage return
abbrev pub ends_with_return : List ℕ → Bool
ends_with_return [] = false
ends_with_return (b ∷ []) = b == 13
ends_with_return (b ∷ c ∷ line) = ends_with_return (c ∷ line)

-- the bytes but the last
abbrev pub without_last : List ℕ → List ℕ
without_last [] = []
without_last (b ∷ []) = []
without_last (b ∷ c ∷ line) = b ∷ without_last (c ∷ line)

-- a line that gains an end: a line feed alone takes a carriage return before it into the line's end
abbrev pub parted : List ℕ → List ℕ → Ended
parted end line =
    if ends_with_return line && (length end == 1)
    then record { line = without_last line; end = 13 ∷ end } else record { line = line; end = end }

-- a last line that has no end, with lines after it: each but the last gains an end
abbrev pub hanging : List ℕ → List ℕ → List (List ℕ) → List Ended
hanging end line [] = record { line = line; end = [] } ∷ []
hanging end line (next ∷ lines) = parted end line ∷ hanging end next lines

-- the last line as it is then
abbrev pub hung_line : List ℕ → List ℕ → List (List ℕ) → List ℕ
hung_line end line [] = line
hung_line end line (next ∷ lines) = (parted end line).line

-- the line that a row is, with these numbers, before these lines
abbrev pub row_line : List ℕ → List ℕ → Line → List NewNumber → List (List ℕ) → List ℕ
row_line text end row numbers after =
    if row.end == 0 then hung_line end (row_bytes text row numbers) after
    else row_bytes text row numbers

-- what is added at a row is allowed there, and the row is still a line, which has an end or is the
-- last one
pub record Fits (text end : List ℕ) (before : List (ℕ × List ℕ)) (numbers : List (ℕ × NewNumber))
    (after : List (ℕ × List ℕ)) (row : ℕ × Line) : Type 0 where
  pub before_fit : AllByRecursion IsFit (of_number row.0 before)
  pub after_fit : AllByRecursion IsFit (of_number row.0 after)
  pub ended_row : (row.1.end == 0) ≡ false → IsEnded
      (record { line = row_bytes text row.1 (of_number row.0 numbers); end = end_of text row.1 })
  pub hanging_row : (row.1.end == 0) ≡ true → (end_of text row.1 ≡ []) × AreEnded
      (hanging end (row_bytes text row.1 (of_number row.0 numbers)) (of_number row.0 after))

-- the same of all rows
pub record CanBePatched (text : List ℕ) (lines : Lines) (before : List (ℕ × List ℕ))
    (numbers : List (ℕ × NewNumber)) (after : List (ℕ × List ℕ)) : Type 0 where
  pub ends : IsLineEnd (line_end text lines.rows)
  pub fits : AllByRecursion (Fits text (line_end text lines.rows) before numbers after)
      (enumerate_from 1 lines.rows)
