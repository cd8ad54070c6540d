-- Where nothing is added to a file, it is as it was.
use Rattle.std.proofs.Common.{◌≡◌, ℕ, ◌+◌, ◌≤◌, ◌==◌, Bool, true, false, if◌then◌else◌, List, [], ◌∷◌, ◌++◌, length, drop, ap, sym, ◌∙◌, arith, refl, append-nil, append_assoc}
use Rattle.std.specs.Prelude.{slice_range}
use Rattle.std.specs.List.{enumerate_from, flat_map}
use Rattle.std.proofs.lemmas.List.{drop_all}
use Rattle.std.proofs.lemmas.List.Folds.{drop_split}
use Rattle.ios_words.specs.declared.commands.Command.{Command}
use Rattle.ios_lines.specs.declared.line.Line.{Line}
use Rattle.ios_lines.specs.declared.line.Lines.{Lines}
use Rattle.ios_lines.specs.Lines.{AreLinesOf}
use Rattle.ios_lines.specs.Texts.{Join, part}
use Rattle.line_patcher.specs.declared.additions.NewNumber.{NewNumber}
use Rattle.line_patcher.specs.Patches.{end_of, line_end, patched_row, patched_text}
use Rattle.line_patcher.specs.Written.{lines_at}

none-follow : (b : Bool) (none : List ℕ) → (if b then none else none) ≡ none
none-follow true none = refl
none-follow false none = refl

rows-stay : (text end : List ℕ) (at n : ℕ) (rows : List Line) → Join text at rows → flat_map (patched_row text end [] [] []) (enumerate_from n rows) ≡ drop at text
rows-stay text end at n [] join = let past : length text ≤ at = omega (arith, join) in sym (drop_all at text past)
rows-stay text end at n (row ∷ rows) join =
    let to : ℕ = row.span.to in
    let next : ℕ = row.span.to + row.end in
    let more : List ℕ = flat_map (patched_row text end [] [] []) (enumerate_from (n + 1) rows) in
    let rest : more ≡ drop next text = rows-stay text end next (n + 1) rows join.2 in
    let bytes : part text row.span ≡ slice_range text at to = ap (λ (from : ℕ). slice_range text from to) join.0 in
    let ordered : at ≤ to = join.1.ordered in
    let whole : List ℕ = part text row.span ++ end_of text row in
    ap (λ (l : List ℕ). (whole ++ l) ++ more) (none-follow (row.end == 0) []) ∙ ap (λ (l : List ℕ). l ++ more) (append-nil whole) ∙ append_assoc (part text row.span) (end_of text row) more ∙
    (λ i. bytes i ++ (end_of text row ++ rest i)) ∙ ap (λ (l : List ℕ). slice_range text at to ++ l) (sym (drop_split text to next (omega arith))) ∙ sym (drop_split text at to ordered)

pub untouched : (text : List ℕ) (lines : Lines) (before after : List (ℕ × Command)) (numbers : List (ℕ × NewNumber)) → AreLinesOf text lines → before ≡ [] → numbers ≡ [] → after ≡ [] →
    text ≡ patched_text text lines (lines_at before) numbers (lines_at after)
untouched text lines before after numbers are b n a =
    sym (rows-stay text (line_end text lines.rows) 0 1 lines.rows are.join) ∙ (λ i. patched_text text lines (lines_at (sym b i)) (sym n i) (lines_at (sym a i)))
