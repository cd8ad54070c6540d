use Rattle.std.proofs.lemmas.Result.{err_from_is_err_and}
use Rattle.apply_commands.proofs.Applied.{applied, choice_stopped, ready_stopped}
use Rattle.apply_commands.proofs.applying.apply.Goals as goal

pub returns-in_err-ready-clause-answer : goal.returns-in_err-ready-clause-answer
returns-in_err-ready-clause-answer g c =
    let p = err_from_is_err_and c.from_residual.result c.from_residual.ensures.1 in
    rw (p.1, p.2) (ready_stopped (g.S.Store.held c.args.store.now) c.args.words.now c.in_err-ready.field-0.0 c.in_err-ready.ensures.told)

pub returns-in_err-chosen-clause-answer : goal.returns-in_err-chosen-clause-answer
returns-in_err-chosen-clause-answer g c =
    let p = err_from_is_err_and c.from_residual-in_err-chosen.result c.from_residual-in_err-chosen.ensures.1 in
    rw (p.1, p.2) (choice_stopped (g.S.Store.held c.args.store.now) (g.S.Store.held c.read_ready.new.store) c.in_ok-ready.ensures.reads.same
    c.args.words.now c.in_ok-ready.ready c.in_ok-sources.sources c.as_slice-text.result.now c.in_err-chosen.field-0.0 c.as_slice-text.ensures.value
    c.in_ok-ready.ensures.told c.in_ok-sources.ensures.told c.in_ok-sources.ensures.fit c.in_err-chosen.ensures.chooses)

pub returns-clause-answer : goal.returns-clause-answer
returns-clause-answer g c =
    applied (g.S.Store.held c.args.store.now) (g.S.Store.held c.read_ready.new.store) c.in_ok-ready.ensures.reads.same
    c.args.words.now c.in_ok-ready.ready c.in_ok-sources.sources c.as_slice-text.result.now c.in_ok-chosen.chosen c.in_ok-done.done c.as_slice-text.ensures.value
    c.in_ok-ready.ensures.told c.in_ok-sources.ensures.told c.in_ok-ready.ensures.well_formed c.in_ok-sources.ensures.fit c.in_ok-sources.ensures.built
    c.in_ok-sources.ensures.count c.in_ok-sources.ensures.bytes c.in_ok-chosen.ensures.chooses c.in_ok-done.ensures
