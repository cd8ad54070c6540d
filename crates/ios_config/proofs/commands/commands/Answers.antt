use Rattle.std.proofs.Common.{◌≡◌, ℕ, List, ◌+◌, ◌++◌, ◌∷◌, [], subst, sym, ◌∙◌, ap, arith, slice_get, Some, Vec, length, ◌≤◌}
use Rattle.std.specs.Prelude.{Ok, Err}
use Rattle.std.specs.List.{AllZip}
use Rattle.std.proofs.lemmas.Result.{err_from_is_err_and}
use Rattle.std.specs.declared.alloc.Global.{Global}
use Rattle.ios_lines.specs.declared.line.Line.{Line}
use Rattle.ios_words.specs.declared.kinds.BlockKind.{BlockKind}
use Rattle.ios_words.specs.declared.kinds.BlockKind.TheVariants as kinds
use Rattle.ios_config.specs.declared.commands.FileCommand.{FileCommand}
use Rattle.ios_config.specs.Commands.{IsReadAs, IsFaultOfFile}
use Rattle.ios_config.specs.Reading.{standing, IsReading}
use Rattle.ios_config.proofs.Opened.{knows_none}
use Rattle.ios_config.proofs.Numbered.{lines_all}
use Rattle.ios_config.proofs.Steps.{at_place, has_words, ReadsTo, reads_more, reads_same, first_fault}
use Rattle.ios_config.proofs.commands.commands.Goals as goal
use Rattle.ios_config.proofs.commands.commands.Goals.{then-not-line+in_ok-c+in_ok-push, else-not-line}

pub loop-place-init : goal.loop-place-init
loop-place-init c = record {
  read = subst (λ (l : List FileCommand). AllZip (IsReadAs c.args.text.now c.args.lines.now) [] l) (sym c.new-commands.ensures.items) tt;
  known =
      knows_none c.args.text.now c.args.lines.now kinds.Top;
}

pub read-requires : goal.read-requires
read-requires c =
    let n = c.loop-place.place in
    let at : slice_get c.args.lines.now.rows n ≡ Some c.line-item.result =
    at_place c.args.lines.now c.slice-line-items.result.now n c.line-item.result c.slice-line-items.ensures.items c.loop-place-test.true c.line-item.is in
    has_words c.args.text.now c.args.lines.now n c.line-item.result c.requires at

pub returns-in_err-c-clause-err : goal.returns-in_err-c-clause-err
returns-in_err-c-clause-err c =
    let text = c.args.text.now in
    let lines = c.args.lines.now in
    let n = c.loop-place.place in
    let r = c.line-item.result in
    let fault = c.in_err-c.field-0.0 in
    let at : slice_get lines.rows n ≡ Some r =
    at_place lines c.slice-line-items.result.now n r c.slice-line-items.ensures.items c.loop-place-test.true c.line-item.is in
    let reading : IsReading text r (n + 1) (standing r c.loop-place.current) (Err fault) =
    subst (λ (k : BlockKind). IsReading text r (n + 1) k (Err fault)) c.standing.ensures c.in_err-c.ensures in
    let is : IsFaultOfFile text lines fault =
    first_fault text lines n r c.requires at c.loop-place.commands.items c.loop-place.current c.loop-place.invariant fault c.if-not-line.true reading in
    let p = err_from_is_err_and c.from_residual.result c.from_residual.ensures.1 in
    rw (p.1, p.2) is

pub loop-place-preserved : goal.loop-place-preserved
loop-place-preserved c =
    let text = c.args.text.now in
    let lines = c.args.lines.now in
    let n = c.loop-place.place in
    let r = c.line-item.result in
    let at : slice_get lines.rows n ≡ Some r =
    at_place lines c.slice-line-items.result.now n r c.slice-line-items.ensures.items c.loop-place-test.true c.line-item.is in
    elim c.if-not-line.branch [
      | then-not-line+in_ok-c+in_ok-push w ↦
          let k = w.in_ok-c.c in
          let items : c.if-not-line.commands.items ≡ c.loop-place.commands.items ++ k ∷ [] =
          ap (λ (v : Vec FileCommand Global). v.items) w.commands-is ∙ w.in_ok-push.ensures.items in
          let reading : IsReading text r (n + 1) (standing r c.loop-place.current) (Ok k) =
          subst (λ (b : BlockKind). IsReading text r (n + 1) b (Ok k)) w.standing.ensures w.in_ok-c.ensures in
          subst (λ (l : List FileCommand). ReadsTo text lines (n + 1) l c.if-not-line.current) (sym items)
          (subst (ReadsTo text lines (n + 1) (c.loop-place.commands.items ++ k ∷ [])) (sym (w.current-is ∙ w.open_after-current.ensures))
          (reads_more text lines n r c.requires at c.loop-place.commands.items c.loop-place.current c.loop-place.invariant k w.if-not-line.true reading))
      | else-not-line w ↦
          subst (λ (v : Vec FileCommand Global). ReadsTo text lines (n + 1) v.items c.if-not-line.current) (sym w.commands-is)
          (subst (ReadsTo text lines (n + 1) c.loop-place.commands.items) (sym w.current-is)
          (reads_same text lines n r c.requires at c.loop-place.commands.items c.loop-place.current c.loop-place.invariant w.if-not-line.false))
    ]

pub returns-clause-ok : goal.returns-clause-ok
returns-clause-ok c =
    let text = c.args.text.now in
    let lines = c.args.lines.now in
    let whole : length lines.rows ≤ c.loop-place.place =
    let same : length c.slice-line-items.result.now ≡ length lines.rows = ap (λ (l : List Line). length l) c.slice-line-items.ensures.items in
    let past : length c.slice-line-items.result.now ≤ c.loop-place.place = c.loop-place-test.false in
    omega arith in
    subst (λ (l : List (ℕ × Line)). AllZip (IsReadAs text lines) l c.loop-place.commands.items) (lines_all lines c.loop-place.place whole) c.loop-place.invariant.read
