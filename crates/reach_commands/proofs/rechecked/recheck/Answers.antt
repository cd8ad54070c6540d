use Rattle.std.proofs.Common.{◌∙◌, arith}
use Rattle.std.proofs.lemmas.Result.{err_from_is_err_and}
use Rattle.reach_commands.proofs.PrefersAnswered.{out_of_memory}
use Rattle.reach_commands.proofs.RecheckAnswered.{answered, classes_stopped, reading_stopped}
use Rattle.reach_commands.proofs.rechecked.recheck.Goals as goal

pub returns-in_err-count_classes-clause-answer : goal.returns-in_err-count_classes-clause-answer
returns-in_err-count_classes-clause-answer g c =
    let p = err_from_is_err_and c.from_residual-in_err-count_classes.result c.from_residual-in_err-count_classes.ensures.1 in
    rw (p.1, p.2) (classes_stopped (g.S.Store.held c.args.store.now) (g.S.Store.held c.read_document.new.store)
    (g.S.Store.held c.try_file.new.store) c.in_ok-doc.ensures.reads.same c.in_ok-try_file.ensures.reads.same
    c.args.words.now c.in_ok-doc.doc c.in_ok-input.input c.in_err-count_classes.field-0.0
    c.in_ok-doc.ensures.told c.in_ok-try_file.ensures.told c.in_ok-input.ensures.told c.in_err-count_classes.ensures)

pub returns-in_err-held-clause-answer : goal.returns-in_err-held-clause-answer
returns-in_err-held-clause-answer g c =
    let p = err_from_is_err_and c.from_residual-in_err-held.result c.from_residual-in_err-held.ensures.1 in
    rw (p.1, p.2) (reading_stopped (g.S.Store.held c.args.store.now) (g.S.Store.held c.read_document.new.store) (g.S.Store.held c.try_file.new.store) (g.S.Store.held c.read_files.new.store)
    c.in_ok-doc.ensures.reads.same c.in_ok-try_file.ensures.reads.same c.in_ok-input.ensures.reads.same
    c.args.words.now c.in_ok-input.input c.in_err-held.field-0.0 c.in_ok-try_file.ensures.told c.in_err-held.ensures.told)

pub returns-clause-answer : goal.returns-clause-answer
returns-clause-answer g c =
    answered (g.S.Store.held c.args.store.now) (g.S.Store.held c.read_document.new.store) (g.S.Store.held c.try_file.new.store) (g.S.Store.held c.read_files.new.store)
    c.in_ok-doc.ensures.reads.same c.in_ok-try_file.ensures.reads.same c.in_ok-input.ensures.reads.same
    c.args.words.now c.in_ok-doc.doc c.in_ok-input.input c.in_ok-held.held c.in_ok-done.done
    c.in_ok-doc.ensures.told c.in_ok-try_file.ensures.told c.in_ok-input.ensures.told c.in_ok-input.ensures.fit c.in_ok-count_classes.ensures
    c.in_ok-held.ensures.told c.in_ok-done.ensures.answer c.in_ok-done.ensures.judging

pub returns-in_err-done-clause-reads : goal.returns-in_err-done-clause-reads
returns-in_err-done-clause-reads g c =
    let p = err_from_is_err_and c.from_residual-in_err-done.result c.from_residual-in_err-done.ensures.1 in
    let doc = c.in_ok-doc.ensures.reads in
    let past = c.in_ok-try_file.ensures.reads in
    let input = c.in_ok-input.ensures.reads in
    let held = c.in_ok-held.ensures.reads in
    rw (p.1, p.2) (out_of_memory g.S.Store.held g.S.Store.faults g.S.Store.absences g.S.Store.taken c.args.store.now c.read_held.new.store
    (held.same ∙ input.same ∙ past.same ∙ doc.same)
    (held.failed.only (λ is. cc) ∙ input.failed.only (λ is. cc) ∙ past.failed.only (λ is. cc) ∙ doc.failed.only (λ is. cc))
    (omega (arith, doc.absences_rise, past.absences_rise, input.absences_rise, held.absences_rise))
    (omega (arith, doc.taken_rise, past.taken_rise, input.taken_rise, held.taken_rise)))
