use Rattle.std.proofs.Common.{◌∙◌, ap}
use Rattle.std.proofs.lemmas.Result.{err_from_is_err_and}
use Rattle.run_files.specs.Judgements.{judgement_status, judgement_text}
use Rattle.check_commands.proofs.Given.{judged, lines_stopped, sources_stopped}
use Rattle.check_commands.proofs.checking.check_certificate.Goals as goal

pub returns-in_err-sources-clause-told : goal.returns-in_err-sources-clause-told
returns-in_err-sources-clause-told g c =
    let p = err_from_is_err_and c.from_residual.result c.from_residual.ensures.1 in
    rw (p.1, p.2) (sources_stopped c.args.document.now c.args.certificate.now c.args.doc.now (g.S.Store.held c.args.store.now) c.in_err-sources.field-0.0 c.in_err-sources.ensures.told)

pub returns-in_err-outcome-clause-told : goal.returns-in_err-outcome-clause-told
returns-in_err-outcome-clause-told g c =
    let p = err_from_is_err_and c.from_residual-in_err-outcome.result c.from_residual-in_err-outcome.ensures.1 in
    rw (p.1, p.2) (lines_stopped c.args.document.now c.args.certificate.now c.args.doc.now (g.S.Store.held c.args.store.now)
    (g.S.Store.held c.read_sources.new.store) c.in_ok-sources.ensures.reads.same c.in_ok-sources.sources
    c.in_ok-sources.ensures.told c.in_ok-sources.ensures.fit.valid c.in_err-outcome.field-0.0 c.in_err-outcome.ensures.told)

pub returns-clause-told : goal.returns-clause-told
returns-clause-told g c =
    judged c.args.document.now c.args.certificate.now c.args.doc.now (g.S.Store.held c.args.store.now) (g.S.Store.held c.read_sources.new.store)
    c.in_ok-sources.ensures.reads.same c.in_ok-sources.sources
    c.in_ok-sources.ensures.told c.in_ok-sources.ensures.fit.valid c.in_ok-outcome.outcome c.in_ok-done.done c.in_ok-outcome.ensures.told
    (c.in_ok-done.ensures.text ∙ ap judgement_text c.judgement_of.ensures) (c.in_ok-done.ensures.status ∙ ap judgement_status c.judgement_of.ensures) c.in_ok-done.ensures.own
