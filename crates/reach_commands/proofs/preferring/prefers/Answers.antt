use Rattle.std.proofs.Common.{inl, refl}
use Rattle.std.proofs.lemmas.Result.{err_from_is_err_and}
use Rattle.reach_commands.specs.PreferRuns.{IsPrefersAnswer, IsPrefersRefusal}
use Rattle.reach_commands.proofs.AddedStops.{input_stopped, reads_then}
use Rattle.reach_commands.proofs.preferring.prefers.Goals as goal

pub returns-in_err-input-clause-answer : goal.returns-in_err-input-clause-answer
returns-in_err-input-clause-answer g c =
    let p = err_from_is_err_and c.from_residual.result c.from_residual.ensures.1 in
    rw (p.1, p.2) (input_stopped (IsPrefersRefusal c.args.words.now) (IsPrefersAnswer c.args.words.now) c.args.words.now.document
    (g.S.Store.held c.args.store.now) c.in_err-input.field-0.0 (λ files r refused. inl refused) c.in_err-input.ensures.told)

pub returns-clause-answer : goal.returns-clause-answer
returns-clause-answer g c = c.prefers_over.ensures.answer (g.S.Store.held c.args.store.now) c.in_ok-input.input.doc refl c.in_ok-input.ensures.told

pub returns-clause-reads : goal.returns-clause-reads
returns-clause-reads g c =
    reads_then g.S.Store.held g.S.Store.faults g.S.Store.absences g.S.Store.taken c.args.store.now c.read_input.new.store c.in_ok-input.input c.prefers_over.result
    c.in_ok-input.ensures.reads c.prefers_over.ensures.cause
