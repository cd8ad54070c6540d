use Rattle.std.proofs.Common.{◌∙◌, ap}
use Rattle.std.proofs.lemmas.Result.{err_from_is_err_and}
use Rattle.run_files.specs.Judgements.{judgement_status, judgement_text}
use Rattle.check_commands.proofs.ReportTold.{classes_stopped, files_stopped, judged, lines_stopped}
use Rattle.check_commands.proofs.report_lines.check_lines.Goals as goal

pub returns-in_err-input-clause-told : goal.returns-in_err-input-clause-told
returns-in_err-input-clause-told g c =
    let p = err_from_is_err_and c.from_residual.result c.from_residual.ensures.1 in
    rw (p.1, p.2) (files_stopped (g.S.Store.held c.args.store.now) c.args.document.now c.args.certificate.now c.args.doc c.in_err-input.field-0.0 c.in_err-input.ensures.told)

pub returns-in_err-count_classes-clause-told : goal.returns-in_err-count_classes-clause-told
returns-in_err-count_classes-clause-told g c =
    let p = err_from_is_err_and c.from_residual-in_err-count_classes.result c.from_residual-in_err-count_classes.ensures.1 in
    rw (p.1, p.2) (classes_stopped (g.S.Store.held c.args.store.now) c.args.document.now c.args.certificate.now c.args.doc c.in_ok-input.input c.in_err-count_classes.field-0.0
    c.in_ok-input.ensures.told c.in_err-count_classes.ensures)

pub returns-in_err-outcome-clause-told : goal.returns-in_err-outcome-clause-told
returns-in_err-outcome-clause-told g c =
    let p = err_from_is_err_and c.from_residual-in_err-outcome.result c.from_residual-in_err-outcome.ensures.1 in
    rw (p.1, p.2) (lines_stopped (g.S.Store.held c.args.store.now)
    (g.S.Store.held c.read_files.new.store) c.in_ok-input.ensures.reads.same c.args.document.now c.args.certificate.now c.args.doc c.in_ok-input.input.net c.in_ok-input.input.doc
    c.in_err-outcome.field-0.0 c.in_err-outcome.ensures.told)

pub returns-clause-told : goal.returns-clause-told
returns-clause-told g c =
    judged (g.S.Store.held c.args.store.now) (g.S.Store.held c.read_files.new.store) c.in_ok-input.ensures.reads.same c.args.document.now c.args.certificate.now
    c.args.doc c.in_ok-input.input c.in_ok-outcome.outcome c.in_ok-done.done
    c.in_ok-input.ensures.told c.in_ok-input.ensures.fit c.in_ok-count_classes.ensures c.in_ok-outcome.ensures.told
    (c.in_ok-done.ensures.text ∙ ap judgement_text c.judgement_of.ensures) (c.in_ok-done.ensures.status ∙ ap judgement_status c.judgement_of.ensures) c.in_ok-done.ensures.own
