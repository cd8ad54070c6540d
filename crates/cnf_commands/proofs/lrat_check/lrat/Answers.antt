use Rattle.std.proofs.Common.{◌∙◌, ap}
use Rattle.std.proofs.lemmas.Result.{err_from_is_err_and}
use Rattle.run_files.specs.Judgements.{judgement_status, judgement_text}
use Rattle.cnf_commands.proofs.Refuting.{formula_stopped, proof_stopped, judged}
use Rattle.cnf_commands.proofs.lrat_check.lrat.Goals as goal

pub returns-in_err-checker-clause-answer : goal.returns-in_err-checker-clause-answer
returns-in_err-checker-clause-answer g c =
    let p = err_from_is_err_and c.from_residual.result c.from_residual.ensures.1 in
    rw (p.1, p.2) (formula_stopped (g.S.Store.held c.args.store.now) c.args.cnf.now c.args.proof.now c.in_err-checker.field-0.0 c.in_err-checker.ensures.told)

pub returns-in_err-try_file-clause-answer : goal.returns-in_err-try_file-clause-answer
returns-in_err-try_file-clause-answer g c =
    let p = err_from_is_err_and c.from_residual-in_err-try_file.result c.from_residual-in_err-try_file.ensures.1 in
    rw (p.1, p.2) (proof_stopped (g.S.Store.held c.args.store.now) (g.S.Store.held c.read_checker.new.store) c.in_ok-checker.ensures.reads.same c.args.cnf.now c.args.proof.now c.in_ok-checker.checker
    c.in_err-try_file.field-0.0 c.in_ok-checker.ensures.told c.in_err-try_file.ensures.told)

pub returns-clause-answer : goal.returns-clause-answer
returns-clause-answer g c =
    let e = c.in_ok-done.ensures in
    let is = c.judgement_of.ensures in
    judged (g.S.Store.held c.args.store.now) (g.S.Store.held c.read_checker.new.store) (g.S.Store.held c.try_file.new.store) c.in_ok-checker.ensures.reads.same c.in_ok-try_file.ensures.reads.same
    c.args.cnf.now c.args.proof.now c.in_ok-checker.checker c.in_ok-outcome.outcome c.in_ok-done.done
    c.in_ok-checker.ensures.told c.in_ok-try_file.ensures.told c.in_ok-outcome.ensures.told
    (e.text ∙ ap judgement_text is) (e.status ∙ ap judgement_status is) e.own
