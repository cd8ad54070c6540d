-- How long a patched text is: half as much again for each digit that a number gains, and what is put into it.
use Rattle.std.proofs.Common.{◌≡◌, ℕ, zero, suc, ◌+◌, ◌-◌, ◌*◌, ◌<◌, ◌≤◌, ◌==◌, Bool, true, false, if◌then◌else◌, List, [], ◌∷◌, ◌++◌, length, length-append, length-take, drop, refl, ap}
use Rattle.std.proofs.Common.{subst, arith, decimal}
use Rattle.std.specs.Prelude.{Option, Some, None, slice_get, slice_range}
use Rattle.std.specs.Option.{option_map_or}
use Rattle.std.specs.List.{enumerate_from, flat_map, range_with_len, AllByRecursion}
use Rattle.std.proofs.lemmas.Option.{none-some, same_Some}
use Rattle.arc_base.specs.declared.span.Span.{Span}
use Rattle.ios_lines.specs.declared.line.Line.{Line}
use Rattle.ios_lines.specs.declared.line.Lines.{Lines}
use Rattle.ios_lines.specs.Lines.{AreLinesOf}
use Rattle.ios_lines.specs.Rewritten.{rewritten}
use Rattle.ios_lines.specs.Texts.{IsEnd, Join, part}
use Rattle.ios_lines.specs.Words.{AreWords}
use Rattle.arc_base.specs.Numbered.{of_number}
use Rattle.line_patcher.specs.declared.additions.NewNumber.{NewNumber}
use Rattle.line_patcher.specs.Patches.{end_of, line_end, row_bytes, ended, following, patched_row, patched_text}
use Rattle.line_patcher.proofs.RowsWithin.{rows-few}
use Rattle.patch_size_laws.proofs.Keyed.{total, keyed, keyed-few, apart-range, numbered-all}
use Rattle.ios_words.proofs.WordSizes.{number-few}

-- what a line costs that is put in: its bytes, and an end of at most two
abbrev pub cost_of : List ℕ → ℕ
cost_of line = length line + 2

abbrev pub cost : List (List ℕ) → ℕ
cost lines = total cost_of lines

-- what lines with numbers cost
abbrev pub put : List (ℕ × List ℕ) → ℕ
put lines = total (λ (x : ℕ × List ℕ). cost_of x.1) lines

abbrev pub IsSmall : NewNumber → Type 0
IsSmall new = new.number < 1000000

range-few : (text : List ℕ) (a b : ℕ) → length (slice_range text a b) ≤ b - a
range-few text a b = omega (arith, length-take (b - a) (drop a text))

ended-few : (end : List ℕ) (lines : List (List ℕ)) → length end ≤ 2 → length (ended end lines) ≤ cost lines
ended-few end [] short = omega arith
ended-few end (l ∷ ls) short = omega (arith, length-append (l ++ end) (ended end ls), length-append l end, ended-few end ls short, short)

begun-few : (end : List ℕ) (lines : List (List ℕ)) → length end ≤ 2 → length (flat_map (λ line. end ++ line) lines) ≤ cost lines
begun-few end [] short = omega arith
begun-few end (l ∷ ls) short = omega (arith, length-append (end ++ l) (flat_map (λ line. end ++ line) ls), length-append end l, begun-few end ls short, short)

following-few : (end : List ℕ) (len : ℕ) (lines : List (List ℕ)) → length end ≤ 2 → length (following end len lines) ≤ cost lines
following-few end len lines short = by (len == 0)
  where
    by : (b : Bool) → length (if b then flat_map (λ line. end ++ line) lines else ended end lines) ≤ cost lines
    by true = begun-few end lines short
    by false = ended-few end lines short

-- a word has a byte, and lies in its row
word-in : (text : List ℕ) (at to : ℕ) (words : List Span) (k : ℕ) (word : Span) → AreWords text at to words → slice_get words k ≡ Some word → (at ≤ word.from) × (word.from < word.to) × (word.to ≤ to)
word-in text at to [] k word are is = absurd (none-some word is)
word-in text at to (w ∷ words) zero word are is = subst (λ (x : Span). (at ≤ x.from) × (x.from < x.to) × (x.to ≤ to)) (same_Some w word is) (are.0.after, are.0.some, are.0.within)
word-in text at to (w ∷ words) (suc k) word are is =
    let deeper = word-in text w.to to words k word are.1 is in
    let after = are.0.after in
    let some = are.0.some in
    ((let d = deeper.0 in omega (arith, d, after, some)), deeper.1, deeper.2)

-- a row in which a number may be another: it gains at most five bytes, and has one where it gains any
row-few : (text : List ℕ) (row : Line) (numbers : List NewNumber) → AreWords text row.span.from row.span.to row.words → row.span.from ≤ row.span.to → AllByRecursion IsSmall numbers →
    2 * length (row_bytes text row numbers) ≤ 7 * (row.span.to - row.span.from) + 5
row-few text row [] are low small = omega (arith, range-few text row.span.from row.span.to)
row-few text row (new ∷ more) are low small = by (slice_get row.words new.word) refl
  where
    by : (o : Option Span) → slice_get row.words new.word ≡ o → 2 * length
        (option_map_or (λ span. rewritten text row span (decimal new.number)) o (part text row.span)) ≤ 7 * (row.span.to - row.span.from) + 5
    by None e = omega (arith, range-few text row.span.from row.span.to)
    by (Some span) e =
        let w = word-in text row.span.from row.span.to row.words new.word span are e in
        let a : row.span.from ≤ span.from = w.0 in
        let b : span.from < span.to = w.1 in
        let c : span.to ≤ row.span.to = w.2 in
        omega (
          arith,
          a,
          b,
          c,
          length-append (slice_range text row.span.from span.from) (decimal new.number ++ slice_range text span.to row.span.to),
          length-append (decimal new.number) (slice_range text span.to row.span.to),
          range-few text row.span.from span.from,
          range-few text span.to row.span.to,
          number-few new.number small.0,
        )

end-few : (text : List ℕ) (row : Line) → length (end_of text row) ≤ row.end
end-few text row = omega (arith, range-few text row.span.to (row.span.to + row.end))

-- an end has at most two bytes
end-short : (text : List ℕ) (from to end : ℕ) → IsEnd text from to end → end ≤ 2
end-short text from to zero is = omega arith
end-short text from to (suc zero) is = omega arith
end-short text from to (suc (suc zero)) is = omega arith
end-short text from to (suc (suc (suc more))) is = absurd is

pub line-end-short : (text : List ℕ) (rows : List Line) → Join text 0 rows → length (line_end text rows) ≤ 2
line-end-short text [] join = omega arith
line-end-short text (row ∷ rows) join = by (row.end == 0)
  where
    by : (b : Bool) → length (if b then 10 ∷ [] else end_of text row) ≤ 2
    by true = omega arith
    by false = omega (arith, end-few text row, end-short text 0 row.span.to row.end join.1.ending)

abbrev HasWords : List ℕ → Line → Type 0
HasWords text row = AreWords text row.span.from row.span.to row.words

no-rows : (rows : List Line) → length rows ≡ 0 → rows ≡ []
no-rows [] e = refl
no-rows (row ∷ rows) e = absurd (omega (arith, e))

module _ (text end : List ℕ) (before : List (ℕ × List ℕ)) (numbers : List (ℕ × NewNumber)) (after : List (ℕ × List ℕ)) (short : length end ≤ 2)
    (small : AllByRecursion (λ (x : ℕ × NewNumber). IsSmall x.1) numbers) where
  abbrev patched : ℕ → List Line → ℕ
  patched k rows = length (flat_map (patched_row text end before numbers after) (enumerate_from k rows))

  abbrev puts : ℕ → List Line → ℕ
  puts k rows = keyed cost_of before (range_with_len k (length rows)) + keyed cost_of after (range_with_len k (length rows))

  one-row : (k : ℕ) (row : Line) → HasWords text row → row.span.from ≤ row.span.to →
      2 * length (patched_row text end before numbers after (k, row)) ≤ 7 * (row.span.to - row.span.from) + 5 + 2 * row.end + 2 * (cost (of_number k before) + cost (of_number k after))
  one-row k row has low =
      let b : List ℕ = ended end (of_number k before) in
      let r : List ℕ = row_bytes text row (of_number k numbers) in
      let e : List ℕ = end_of text row in
      let f : List ℕ = following end row.end (of_number k after) in
      omega (
        arith,
        length-append (b ++ r ++ e) f,
        length-append (b ++ r) e,
        length-append b r,
        ended-few end (of_number k before) short,
        row-few text row (of_number k numbers) has low (numbered-all IsSmall k numbers small),
        end-few text row,
        following-few end row.end (of_number k after) short,
      )

  all-rows : (at k : ℕ) (rows : List Line) → Join text at rows → AllByRecursion (HasWords text) rows → 7 * at + 2 * patched k rows ≤ 7 * length text + 5 + 2 * puts k rows
  all-rows at k [] join has = let all : at ≡ length text = join in omega (arith, all)
  all-rows at k (row ∷ rows) join has =
      let from : row.span.from ≡ at = join.0 in
      let to : ℕ = row.span.to in
      let low : at ≤ to = join.1.ordered in
      let start : row.span.from ≤ to = omega (arith, from, low) in
      let here = one-row k row has.0 start in
      let joined = length-append (patched_row text end before numbers after (k, row)) (flat_map (patched_row text end before numbers after) (enumerate_from (k + 1) rows)) in
      by row.end refl here joined from low (all-rows (to + row.end) (k + 1) rows join.2 has.1)
    where
      by : (e : ℕ) → row.end ≡ e →
          2 * length (patched_row text end before numbers after (k, row)) ≤ 7 * (row.span.to - row.span.from) + 5 + 2 * row.end + 2 * (cost (of_number k before) + cost (of_number k after)) →
          patched k (row ∷ rows) ≡ length (patched_row text end before numbers after (k, row)) + patched (k + 1) rows → row.span.from ≡ at → at ≤ row.span.to →
          7 * (row.span.to + row.end) + 2 * patched (k + 1) rows ≤ 7 * length text + 5 + 2 * puts (k + 1) rows → 7 * at + 2 * patched k (row ∷ rows) ≤ 7 * length text + 5 + 2 * puts k (row ∷ rows)
      by zero e here joined from low deeper =
          let ending = subst (λ (n : ℕ). IsEnd text at row.span.to n) e join.1.ending in
          let last : row.span.to ≡ length text = ending.0 in
          let count = rows-few text (row.span.to + row.end) rows join.2 in
          let no : rows ≡ [] = no-rows rows (omega (arith, e, last, count)) in
          let rest : patched (k + 1) rows ≡ 0 = ap (patched (k + 1)) no in
          omega (arith, here, joined, from, low, e, last, rest)
      by (suc n) e here joined from low deeper = omega (arith, here, joined, from, low, e, deeper)

pub text-few : (text : List ℕ) (lines : Lines) (before : List (ℕ × List ℕ)) (numbers : List (ℕ × NewNumber)) (after : List (ℕ × List ℕ)) → AreLinesOf text lines →
    AllByRecursion (λ (x : ℕ × NewNumber). IsSmall x.1) numbers →
    2 * length (patched_text text lines before numbers after) ≤ 7 * length text + 5 + 2 * (put before + put after)
text-few text lines before numbers after are small =
    let ks : List ℕ = range_with_len 1 (length lines.rows) in
    omega (
      arith,
      all-rows text (line_end text lines.rows) before numbers after (line-end-short text lines.rows are.join) small 0 1 lines.rows are.join
          (have-words 0 lines.rows (λ k row at. (are.rows k row at).spans)),
      keyed-few cost_of before ks (apart-range 1 (length lines.rows)),
      keyed-few cost_of after ks (apart-range 1 (length lines.rows)),
    )
  where
    have-words : (n : ℕ) (rows : List Line) → ((k : ℕ) (row : Line) → slice_get rows k ≡ Some row → HasWords text row) → AllByRecursion (HasWords text) rows
    have-words n [] each = tt
    have-words n (row ∷ rows) each = (each 0 row refl, have-words n rows (λ k r at. each (suc k) r at))
