use Rattle.std.proofs.Common.{◌∙◌, arith}
use Rattle.check_commands.proofs.HeadRead.{head_kept, head_missing, head_told}
use Rattle.check_commands.proofs.first_reading.begins_repair.Goals as goal

pub returns-in-Ok-false-clause-told : goal.returns-in-Ok-false-clause-told
returns-in-Ok-false-clause-told g c =
    head_missing c.args.certificate.now c.args.limit c.make-pieces.result c.next_line.new.pieces c.make-pieces.ensures.limit (g.S.Store.held c.args.store.now)
    c.make-pieces.ensures.left (rw c.in-Ok-false.field-0-test at c.in-Ok-false.ensures.told)

pub lines-init : goal.lines-init
lines-init g c = record {
  told = head_told c.args.certificate.now c.args.limit c.make-pieces.result c.next_line.new.pieces c.make-pieces.ensures.limit
      (g.S.Store.held c.args.store.now) c.make-pieces.ensures.left c.line.result.now c.line.ensures c.is_head-begins.result c.is_head-begins.ensures
      (rw c.in-Ok-true.field-0-test at c.in-Ok-true.ensures.told);
  limit = c.in-Ok-true.ensures.limit ∙ c.make-pieces.ensures.limit;
  going = c.in-Ok-true.ensures.ok;
  same = c.in-Ok-true.ensures.reads.same;
  took = omega (arith, c.make-pieces.ensures.place, c.in-Ok-true.ensures.took, c.in-Ok-true.ensures.onward);
  no_more = omega (arith, c.make-pieces.ensures.place, c.in-Ok-true.ensures.no_more);
  faults = c.in-Ok-true.ensures.reads.failed.only (λ is. cc);
  absences = omega (arith, c.in-Ok-true.ensures.reads.absences_rise);
}

pub lines-preserved : goal.lines-preserved
lines-preserved g c = record {
  told = c.lines.invariant.told;
  limit = c.in-Ok-true-next_line.ensures.limit ∙ c.lines.invariant.limit;
  going = c.in-Ok-true-next_line.ensures.ok;
  same = c.in-Ok-true-next_line.ensures.reads.same ∙ c.lines.invariant.same;
  took = omega (arith, c.lines.invariant.took, c.in-Ok-true-next_line.ensures.took, c.in-Ok-true-next_line.ensures.onward);
  no_more = omega (arith, c.lines.invariant.no_more, c.in-Ok-true-next_line.ensures.no_more, c.in-Ok-true-next_line.ensures.onward);
  faults = c.in-Ok-true-next_line.ensures.reads.failed.only (λ is. cc) ∙ c.lines.invariant.faults;
  absences = omega (arith, c.lines.invariant.absences, c.in-Ok-true-next_line.ensures.reads.absences_rise);
}

pub returns-in-Ok-false-next_line-clause-told : goal.returns-in-Ok-false-next_line-clause-told
returns-in-Ok-false-next_line-clause-told g c =
    head_kept c.args.certificate.now c.args.limit c.lines.pieces c.next_line-in-lines.new.pieces c.lines.invariant.limit (g.S.Store.held c.args.store.now)
    (g.S.Store.held c.lines.store) c.lines.invariant.same c.is_head-begins.result
    c.lines.invariant.told (rw c.in-Ok-false-next_line.field-0-test at c.in-Ok-false-next_line.ensures.told)
