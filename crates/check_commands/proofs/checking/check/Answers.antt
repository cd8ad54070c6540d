use Rattle.std.proofs.lemmas.Result.{err_from_is_err_and}
use Rattle.check_commands.proofs.Judged.{head_stopped, repair_answered, report_answered}
use Rattle.check_commands.proofs.checking.check.Goals as goal

pub returns-in_err-begins_repair-clause-answer : goal.returns-in_err-begins_repair-clause-answer
returns-in_err-begins_repair-clause-answer g c =
    let p = err_from_is_err_and c.from_residual-in_err-begins_repair.result c.from_residual-in_err-begins_repair.ensures.1 in
    rw (p.1, p.2) (head_stopped c.args.document.now c.args.certificate.now c.in_ok-doc.doc (g.S.Store.held c.args.store.now) (g.S.Store.held c.read_document.new.store) c.in_ok-doc.ensures.reads.same
    c.in_err-begins_repair.field-0.0 c.in_ok-doc.ensures.told c.in_err-begins_repair.ensures.told)

pub returns-then-branch-clause-answer : goal.returns-then-branch-clause-answer
returns-then-branch-clause-answer g c =
    repair_answered c.args.document.now c.args.certificate.now c.in_ok-doc.doc (g.S.Store.held c.args.store.now) (g.S.Store.held c.read_document.new.store) (g.S.Store.held c.begins_repair.new.store)
    c.in_ok-doc.ensures.reads.same c.in_ok-begins_repair.ensures.reads.same c.in_ok-doc.ensures.told c.in_ok-begins_repair.field-0 c.in_ok-begins_repair.ensures.told
    c.check_certificate.result c.check_certificate.ensures.own
    c.if-branch.true c.check_certificate.ensures.told

pub returns-else-branch-clause-answer : goal.returns-else-branch-clause-answer
returns-else-branch-clause-answer g c =
    report_answered c.args.document.now c.args.certificate.now c.in_ok-doc.doc (g.S.Store.held c.args.store.now) (g.S.Store.held c.read_document.new.store) (g.S.Store.held c.begins_repair.new.store)
    c.in_ok-doc.ensures.reads.same c.in_ok-begins_repair.ensures.reads.same c.in_ok-doc.ensures.told c.in_ok-begins_repair.field-0 c.in_ok-begins_repair.ensures.told
    c.check_lines.result c.check_lines.ensures.own
    c.if-branch.false c.check_lines.ensures.told
