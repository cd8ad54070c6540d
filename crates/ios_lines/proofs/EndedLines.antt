-- A text that is made of ended lines has these lines, and each text is made so.
use Rattle.std.proofs.Common.{◌≡◌, ◌≢◌, ℕ, zero, suc, ◌+◌, ◌-◌, ◌<◌, ◌≤◌, ◌⊎◌, inl, inr, List, [], ◌∷◌, ◌++◌}
use Rattle.std.proofs.Common.{map, flat_map, length, length-append, take, drop, refl, sym, ap, subst, ◌∙◌, arith, ⊎_elim, append_assoc, append-nil, slice_index, slice_range}
use Rattle.std.proofs.lemmas.List.{drop_more, get_or-append-add}
use Rattle.std.proofs.lemmas.Simd.{map-map}
use Rattle.std.proofs.Math.ListN.{get_or-append}
use Rattle.std.proofs.Math.Seq.{take-append_seam, drop-append_seam}
use Rattle.std.specs.List.{AllByRecursion}
use Rattle.bstr.specs.Text.{without_terminator}
use Rattle.bstr.proofs.lemmas.LineLemmas.{lines-nil}
use Rattle.ios_lines.specs.declared.line.Line.{Line}
use Rattle.ios_lines.specs.Texts.{IsEnd, IsLine, Join, text_lines}
use Rattle.ios_lines.specs.ChangeLaws.{RowsAreEnded}
use Rattle.ios_lines.specs.Ended.{Ended, text_of, IsFree, HasNoReturn, IsEnded, IsUnended, AreEnded, ended_row}
use Rattle.ios_lines.proofs.LineSteps.{line-step, line-bounds}
use Rattle.ios_lines.proofs.Slices.{slice-at, slice-cut, length-slice_range}
use Rattle.ios_lines.proofs.OneList.{lines-join}

-- a byte of the front of a text, and one of what follows
pub front-at : (line rest : List ℕ) (k : ℕ) → k < length line → slice_index (line ++ rest) k ≡ slice_index line k
front-at line rest k low = get_or-append line rest 0 k low

pub after-at : (line rest : List ℕ) (k place : ℕ) → place ≡ length line + k → slice_index (line ++ rest) place ≡ slice_index rest k
after-at line rest k place is = ap (slice_index (line ++ rest)) is ∙ get_or-append-add line rest k 0

-- the line that a text begins with
line-front : (line end rest : List ℕ) → IsFree line → IsEnd (line ++ (end ++ rest)) 0 (length line) (length end) → IsLine (line ++ (end ++ rest)) 0 (length line) (length end)
line-front line end rest free ends = record { ordered = omega arith; no_feed = λ place low high feed. free place high (sym (front-at line (end ++ rest) place high) ∙ feed); ending = ends }

step-front : (line end rest : List ℕ) → 0 < length line + length end → IsLine (line ++ (end ++ rest)) 0 (length line) (length end) → text_lines (line ++ (end ++ rest)) ≡ line ∷ text_lines rest
step-front line end rest some is =
    let text = line ++ (end ++ rest) in
    let long : length text ≡ length line + (length end + length rest) = length-append line (end ++ rest) ∙ ap (λ n. length line + n) (length-append end rest) in
    let first : slice_range text 0 (length line) ≡ line = ap (λ n. take n text) (omega arith) ∙ take-append_seam line (end ++ rest) in
    let regroup : text ≡ (line ++ end) ++ rest = sym (append_assoc line end rest) in
    let count : length line + length end ≡ length (line ++ end) = sym (length-append line end) in
    let left : drop (length line + length end) text ≡ rest = ap (λ n. drop n text) count ∙ ap (drop (length (line ++ end))) regroup ∙ drop-append_seam (line ++ end) rest in
    line-step text 0 (length line) (length end) (omega arith) is
    ∙ ap (λ l. l ∷ text_lines (drop (length line + length end) text)) first
    ∙ ap (λ r. line ∷ text_lines r) left

-- the first line of a text that begins with an ended one
feed-front : (line rest : List ℕ) → IsFree line → HasNoReturn line → text_lines (line ++ ((10 ∷ []) ++ rest)) ≡ line ∷ text_lines rest
feed-front line rest free no_return =
    let text = line ++ ((10 ∷ []) ++ rest) in
    let long : length text ≡ length line + (1 + length rest) = length-append line ((10 ∷ []) ++ rest) ∙ omega arith in
    let other : 0 < length line → slice_index text (length line - 1) ≢ 13 = λ some return. no_return some (sym (front-at line ((10 ∷ []) ++ rest) (length line - 1) (omega arith)) ∙ return) in
    step-front line (10 ∷ []) rest (omega arith) (line-front line (10 ∷ []) rest free (omega arith, after-at line ((10 ∷ []) ++ rest) 0 (length line) (omega arith), other))

return-front : (line rest : List ℕ) → IsFree line → text_lines (line ++ ((13 ∷ 10 ∷ []) ++ rest)) ≡ line ∷ text_lines rest
return-front line rest free =
    let text = line ++ ((13 ∷ 10 ∷ []) ++ rest) in
    let long : length text ≡ length line + (2 + length rest) = length-append line ((13 ∷ 10 ∷ []) ++ rest) ∙ omega arith in
    step-front line (13 ∷ 10 ∷ []) rest (omega arith)
    (line-front line (13 ∷ 10 ∷ []) rest free
    (omega arith, after-at line ((13 ∷ 10 ∷ []) ++ rest) 0 (length line) (omega arith), after-at line ((13 ∷ 10 ∷ []) ++ rest) 1 (length line + 1) (omega arith)))

ended-front : (l : Ended) (rest : List ℕ) → IsEnded l → text_lines ((l.line ++ l.end) ++ rest) ≡ l.line ∷ text_lines rest
ended-front l rest is = ap text_lines (append_assoc l.line l.end rest) ∙ ⊎_elim
    (λ feed. ap (λ e. text_lines (l.line ++ (e ++ rest))) feed.0 ∙ feed-front l.line rest is.free feed.1)
    (λ return. ap (λ e. text_lines (l.line ++ (e ++ rest))) return ∙ return-front l.line rest is.free)
    is.ends

no-lines : text_lines [] ≡ []
no-lines = ap (map without_terminator) lines-nil

unended-line : (l : Ended) → IsUnended l → text_lines ((l.line ++ l.end) ++ []) ≡ l.line ∷ []
unended-line l is =
    let long : length (l.line ++ ([] ++ [])) ≡ length l.line = ap length (append-nil l.line) in
    ap text_lines (append_assoc l.line l.end []) ∙ ap (λ e. text_lines (l.line ++ (e ++ []))) is.none
    ∙ step-front l.line [] [] (omega (arith, is.some)) (line-front l.line [] [] is.free (sym long, is.some))
    ∙ ap (λ ls. l.line ∷ ls) no-lines

-- the text that ended lines make has these lines
pub lines-of-text : (lines : List Ended) → AreEnded lines → text_lines (text_of lines) ≡ map (λ l. l.line) lines
lines-of-text [] are = no-lines
lines-of-text (l ∷ []) are = ⊎_elim (λ ended. ended-front l [] ended ∙ ap (λ ls. l.line ∷ ls) no-lines) (λ unended. unended-line l unended) are
lines-of-text (l ∷ m ∷ lines) are = ended-front l (text_of (m ∷ lines)) are.0 ∙ ap (λ ls. l.line ∷ ls) (lines-of-text (m ∷ lines) are.1)

-- ended lines before others
pub ended-append : (front back : List Ended) → AllByRecursion IsEnded front → AreEnded back → AreEnded (front ++ back)
ended-append [] back all are = are
ended-append (l ∷ []) [] all are = inl all.0
ended-append (l ∷ []) (m ∷ back) all are = (all.0, are)
ended-append (l ∷ m ∷ front) back all are = (all.0, ended-append (m ∷ front) back all.1 are)

-- the lines before another one are all ended
pub ended-before : (front : List Ended) (l : Ended) (back : List Ended) → AreEnded (front ++ l ∷ back) → AllByRecursion IsEnded front × AreEnded (l ∷ back)
ended-before [] l back are = (tt, are)
ended-before (k ∷ []) l back are = ((are.0, tt), are.1)
ended-before (k ∷ m ∷ front) l back are = let deeper = ended-before (m ∷ front) l back are.1 in ((are.0, deeper.0), deeper.1)

-- bytes between two places that are one, two or none
none-between : (text : List ℕ) (at : ℕ) → slice_range text at (at + 0) ≡ []
none-between text at = let none : (at + 0) - at ≡ 0 = omega arith in ap (λ n. take n (drop at text)) none

one-between : (text : List ℕ) (at byte : ℕ) → at < length text → slice_index text at ≡ byte → slice_range text at (at + 1) ≡ byte ∷ []
one-between text at byte within is =
    let one : (at + 1) - at ≡ 1 = omega arith in
    ap (λ n. take n (drop at text)) one ∙ ap (take 1) (drop_more text at 0 within) ∙ ap (λ (b : ℕ). b ∷ []) is

two-between : (text : List ℕ) (at one two : ℕ) → at + 1 < length text → slice_index text at ≡ one → slice_index text (at + 1) ≡ two → slice_range text at (at + 2) ≡ one ∷ two ∷ []
two-between text at one two within is next =
    let both : (at + 2) - at ≡ 2 = omega arith in
    ap (λ n. take n (drop at text)) both ∙ ap (take 2) (drop_more text at 0 (omega arith) ∙ ap (λ rest. slice_index text at ∷ rest) (drop_more text (at + 1) 0 within))
    ∙ ap (λ (b : ℕ). b ∷ slice_index text (at + 1) ∷ []) is ∙ ap (λ (b : ℕ). one ∷ b ∷ []) next

pub free-part : (text : List ℕ) (from to : ℕ) → to ≤ length text → ((place : ℕ) → from ≤ place → place < to → slice_index text place ≢ 10) → IsFree (slice_range text from to)
free-part text from to within free place low feed =
    let long = length-slice_range text from to within in
    free (from + place) (omega arith) (omega (arith, long, low)) (sym (slice-at text from to place (omega (arith, long, low))) ∙ feed)

-- a line of a text with its end is an ended one, or the last
row-ended : (text : List ℕ) (at to end : ℕ) → IsLine text at to end →
    (IsEnded (record { line = slice_range text at to; end = slice_range text to (to + end) })) ⊎ (IsUnended
    (record { line = slice_range text at to; end = slice_range text to (to + end) }) × (to + end ≡ length text))
row-ended text at to zero line =
    let bounds = line-bounds text at to 0 line in
    let stop : to ≡ length text = line.ending.0 in
    let some : at < to = line.ending.1 in
    let long = length-slice_range text at to bounds.2 in
    inr (record { free = free-part text at to bounds.2 line.no_feed; none = none-between text to; some = omega (arith, long) }, omega arith)
row-ended text at to (suc zero) line =
    let bounds = line-bounds text at to 1 line in
    let order : at ≤ to = line.ordered in
    let long = length-slice_range text at to bounds.2 in
    let other : HasNoReturn (slice_range text at to) = λ some return.
    let place : at + (length (slice_range text at to) - 1) ≡ to - 1 = omega (arith, long) in
    line.ending.2 (omega (arith, long)) (sym (slice-at text at to (length (slice_range text at to) - 1) (omega (arith, long)) ∙ ap (slice_index text) place) ∙ return) in
    inl (record { free = free-part text at to bounds.2 line.no_feed; ends = inl (one-between text to 10 line.ending.0 line.ending.1, other) })
row-ended text at to (suc (suc zero)) line =
    let bounds = line-bounds text at to 2 line in
    inl (record { free = free-part text at to bounds.2 line.no_feed; ends = inr (two-between text to 13 10 line.ending.0 line.ending.1 line.ending.2) })
row-ended text at to (suc (suc (suc more))) line = absurd line.ending

-- the rows from a place on with their ends
rows-ended : (text : List ℕ) (at : ℕ) (rows : List Line) → Join text at rows → AreEnded (map (ended_row text) rows)
rows-ended text at [] join = tt
rows-ended text at (row ∷ []) join =
    let this = row-ended text at row.span.to row.end join.1 in
    ⊎_elim
    (λ ended. inl (subst (λ from. IsEnded (record { line = slice_range text from row.span.to; end = slice_range text row.span.to (row.span.to + row.end) })) (sym join.0) ended))
    (λ unended. inr (subst (λ from. IsUnended (record { line = slice_range text from row.span.to; end = slice_range text row.span.to (row.span.to + row.end) })) (sym join.0) unended.0))
    this
rows-ended text at (row ∷ next ∷ rows) join =
    let this = row-ended text at row.span.to row.end join.1 in
    let later = line-bounds text (row.span.to + row.end) next.span.to next.end join.2.1 in (
      ⊎_elim
          (λ ended. subst (λ from. IsEnded (record { line = slice_range text from row.span.to; end = slice_range text row.span.to (row.span.to + row.end) })) (sym join.0) ended)
          (λ unended. let stop : row.span.to + row.end ≡ length text = unended.1 in absurd (omega arith))
          this,
      rows-ended text (row.span.to + row.end) (next ∷ rows) join.2,
    )

-- a part of a text in two
rows-text : (text : List ℕ) (rows : List Line) (at : ℕ) → Join text at rows →
    text_of (map (ended_row text) rows) ≡ flat_map (λ (line : Line). slice_range text line.span.from (line.span.to + line.end)) rows
rows-text text [] at join = refl
rows-text text (row ∷ rows) at join =
    let order : at ≤ row.span.to = join.1.ordered in
    let from : row.span.from ≡ at = join.0 in
    ap (λ bytes. bytes ++ text_of (map (ended_row text) rows)) (sym (slice-cut text row.span.from row.span.to (row.span.to + row.end) (omega arith) (omega arith)))
    ∙ ap (λ rest. slice_range text row.span.from (row.span.to + row.end) ++ rest) (rows-text text rows (row.span.to + row.end) join.2)

pub rows-make : RowsAreEnded
rows-make text lines is = record {
  ended = rows-ended text 0 lines.rows is.join;
  made = rows-text text lines.rows 0 is.join ∙ lines-join text lines is;
  same = map-map (λ (l : Ended). l.line) (ended_row text) lines.rows ∙ is.texts;
}
