use Rattle.std.proofs.Common.{◌≡◌, ◌∙◌, ℕ, ◌+◌, ◌<◌, List, length, refl, ap, sym, subst, arith}
use Rattle.std.specs.Prelude.{All, Some, slice_get}
use Rattle.std.proofs.lemmas.Option.{slice_get_read}
use Rattle.std.proofs.lemmas.Result.{IfOk-weaker}
use Rattle.ios_lines.specs.declared.line.Line.{Line}
use Rattle.ios_words.specs.declared.commands.Command.{Command}
use Rattle.line_patcher.specs.declared.additions.NewNumber.{NewNumber}
use Rattle.line_patcher.specs.declared.texts.Table.{Table}
use Rattle.line_patcher.specs.Patches.{line_end, patched_row, patched_text}
use Rattle.line_patcher.specs.Working.{LiesWithin, row_around}
use Rattle.line_patcher.specs.Written.{lines_at}
use Rattle.line_patcher.proofs.Growing.{counted_pieces}
use Rattle.line_patcher.proofs.RowsWithin.{rows-few, rows-within, row-within}
use Rattle.line_patcher.proofs.Tables.{around, grouped_are}
use Rattle.line_patcher.proofs.Untouched.{untouched}
use Rattle.line_patcher.proofs.texts.patched_text.Goals as goal

pub overflow_add-count : goal.overflow_add-count
overflow_add-count c = omega (arith, rows-few c.args.text.now 0 c.args.lines.now.rows c.requires.lines.join, ap length c.slice-rows.ensures.items, c.requires.few)

pub line_end-end-requires : goal.line_end-end-requires
line_end-end-requires c = subst (All (LiesWithin c.args.text.now)) (sym c.slice-rows.ensures.items) (rows-within c.args.text.now c.args.lines.now c.requires.lines)

pub push_row-requires : goal.push_row-requires
push_row-requires c =
    let rows : List Line = c.slice-rows.result.now in
    let at : slice_get rows c.loop-place.place ≡ Some c.index-rows-place.result =
    slice_get_read rows (length rows) c.loop-place.place c.index-rows-place.result refl c.loop-place-test.true c.index-rows-place.is in
    row-within c.args.text.now c.args.lines.now c.loop-place.place c.index-rows-place.result c.requires.lines
    (ap (λ (l : List Line). slice_get l c.loop-place.place) (sym c.slice-rows.ensures.items) ∙ at)

pub loop-place-preserved : goal.loop-place-preserved
loop-place-preserved c =
    let text : List ℕ = c.args.text.now in
    let before : List (ℕ × Command) = c.args.before.items in
    let numbers : List (ℕ × NewNumber) = c.args.numbers.items in
    let after : List (ℕ × Command) = c.args.after.items in
    let patched : List ℕ → ℕ × Line → List ℕ = λ end. patched_row text end (lines_at before) numbers (lines_at after) in
    let rows : List Line = c.slice-rows.result.now in
    let i : ℕ = c.loop-place.place in
    let row : Line = c.index-rows-place.result in
    let count : ℕ = length rows + 1 in
    let low : i + 1 < count = omega (arith, c.loop-place-test.true) in
    let table : Table = record { before = c.in_ok-commands_at.field-0; numbers = c.in_ok-grouped.field-0; after = c.in_ok-commands_at-2.field-0 } in
    let end : c.line_end-end.result.now ≡ line_end text c.args.lines.now.rows = c.line_end-end.ensures ∙ ap (line_end text) c.slice-rows.ensures.items in
    let whole : row_around text c.line_end-end.result.now table (i + 1) row ≡ patched (line_end text c.args.lines.now.rows) (i + 1, row) =
    around text c.line_end-end.result.now table count before after numbers (i + 1) row c.in_ok-commands_at.ensures
    (grouped_are count count c.deref-4.result.now numbers c.in_ok-grouped.field-0.items refl c.deref-4.ensures.value c.in_ok-grouped.ensures) c.in_ok-commands_at-2.ensures low ∙
    (λ j. patched (end j) (i + 1, row)) in
    counted_pieces (patched (line_end text c.args.lines.now.rows)) rows i row c.loop-place.new.items c.push_row.new.new.items
    (row_around text c.line_end-end.result.now table (i + 1) row) c.loop-place-test.true
    c.index-rows-place.is whole c.loop-place.invariant c.in_ok-push_row.ensures

pub returns-then-is_nothing : goal.returns-then-is_nothing
returns-then-is_nothing c =
    let text : List ℕ = c.args.text.now in
    let Is : List ℕ → Type 0 = λ new. new ≡ patched_text text c.args.lines.now (lines_at c.args.before.items) c.args.numbers.items (lines_at c.args.after.items) in
    IfOk-weaker c.make.result (λ (new : List ℕ). new ≡ text) Is
    (λ new is. is ∙ untouched text c.args.lines.now c.args.before.items c.args.after.items c.args.numbers.items c.requires.lines
    (sym c.deref.ensures.value ∙ c.is_nothing.ensures.before c.if-is_nothing.true)
    (sym c.deref-2.ensures.value ∙ c.is_nothing.ensures.numbers c.if-is_nothing.true) (sym c.deref-3.ensures.value ∙ c.is_nothing.ensures.after c.if-is_nothing.true)) c.make.ensures
