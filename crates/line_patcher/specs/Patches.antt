-- The patch of a router file: its lines are in the new file in order, and inserted lines between
-- them. Each old line keeps its bytes, except for the digits of a number that is another, and a
-- last line without an end that gains one if a line follows.
use Rattle.std.specs.Prelude.{◌≡◌, ℕ, ◌+◌, ◌==◌, IsSomeAnd, List, [], ◌∷◌, ◌++◌, flat_map, decimal}
use Rattle.std.specs.Prelude.{slice_get, slice_range, if◌then◌else◌}
use Rattle.std.specs.List.{enumerate_from}
use Rattle.std.specs.Option.{option_map_or}
use Rattle.ios_lines.specs.declared.line.Line.{Line}
use Rattle.ios_lines.specs.declared.line.Lines.{Lines}
use Rattle.ios_lines.specs.Texts.{part}
use Rattle.ios_lines.specs.Rewritten.{rewritten}
use Rattle.net_build.specs.declared.built.Built.{Built}
use Rattle.net_build.specs.declared.built.Places.{Places}
use Rattle.edit_list.specs.declared.edit_kinds.Edit.{Edit}
use Rattle.arc_base.specs.Numbered.{of_number, EachRow}
use Rattle.line_patcher.specs.declared.additions.NewNumber.{NewNumber}
use Rattle.line_patcher.specs.Additions.{lines_before, lines_after, numbers_at}

-- the bytes that end a row
abbrev pub end_of : List ℕ → Line → List ℕ
end_of text row = slice_range text row.span.to (row.span.to + row.end)

-- the bytes that end the first of these rows, and a line feed where it has no end
abbrev pub line_end : List ℕ → List Line → List ℕ
line_end text [] = 10 ∷ []
line_end text (row ∷ rows) = if row.end == 0 then 10 ∷ [] else end_of text row

-- the bytes of a row, in which the word at a place may be another number
abbrev pub row_bytes : List ℕ → Line → List NewNumber → List ℕ
row_bytes text row [] = part text row.span
row_bytes text row (new ∷ more) =
    option_map_or (λ span. rewritten text row span (decimal new.number))
    (slice_get row.words new.word) (part text row.span)

-- lines that are each ended
abbrev pub ended : List ℕ → List (List ℕ) → List ℕ
ended end lines = flat_map (λ line. line ++ end) lines

-- lines after a row: each is ended, or, after a row that has no end, each comes after one
abbrev pub following : List ℕ → ℕ → List (List ℕ) → List ℕ
following end len lines = if len == 0 then flat_map (λ line. end ++ line) lines else ended end lines

-- a row of the new file, of this number, with the lines that are added before it and after it
abbrev pub patched_row : List ℕ → List ℕ → List (ℕ × List ℕ) → List (ℕ × NewNumber) →
    List (ℕ × List ℕ) → ℕ × Line → List ℕ
patched_row text end before numbers after row =
    ended end (of_number row.0 before) ++
    row_bytes text row.1 (of_number row.0 numbers) ++
    end_of text row.1 ++
    following end row.1.end (of_number row.0 after)

-- the new file, of which these lines are the old one's, with the lines added before and after them
-- and with new numbers
abbrev pub patched_text : List ℕ → Lines → List (ℕ × List ℕ) → List (ℕ × NewNumber) →
    List (ℕ × List ℕ) → List ℕ
patched_text text lines before numbers after =
    flat_map (patched_row text (line_end text lines.rows) before numbers after)
    (enumerate_from 1 lines.rows)

-- the file of the router after the edits
abbrev pub patched_file : Built → List Edit → ℕ → List ℕ → Lines → Places → List ℕ
patched_file built chosen router text lines own =
    patched_text text lines
    (lines_before built.net own chosen router) (numbers_at built.net own chosen router)
    (lines_after built.net built.places own chosen router)

-- the new text is the file of the router after the edits
abbrev pub IsPatched : Built → List Edit → ℕ → List ℕ → List ℕ → Type 0
IsPatched built chosen router text new =
    IsSomeAnd (slice_get built.lines router) (λ lines.
    IsSomeAnd (slice_get built.places router) (λ own.
    new ≡ patched_file built chosen router text lines own))

-- the new files are those of all routers after the edits
abbrev pub ArePatched : Built → List Edit → List (List ℕ) → List (List ℕ) → Type 0
ArePatched built chosen files new = EachRow (IsPatched built chosen) files new
