use Rattle.std.proofs.Common.{◌∙◌, sym, arith}
use Rattle.std.proofs.lemmas.Result.{err_from_is_err_and}
use Rattle.std.specs.Prelude.{Err}
use Rattle.arc_outside.proofs.Counting.{stood}
use Rattle.run_files.proofs.Stops.{not_failed}
use Rattle.run_inputs.proofs.EditFaults.{stop_cause}
use Rattle.repair_commands.proofs.Repaired.{counts_stopped, repaired, whole}
use Rattle.repair_commands.proofs.repairing.repair.Goals as goal

pub returns-in-Err-clause-answer : goal.returns-in-Err-clause-answer
returns-in-Err-clause-answer g c =
    counts_stopped (g.S.Store.held c.args.store.now) (g.S.Store.held c.read_document.new.store) c.in_ok-doc.ensures.reads.same
    c.args.words.now c.in_ok-doc.doc c.in_ok-sources.sources c.in-Err.fault c.fault_stop.result c.in_ok-doc.ensures.told
    (sym c.in_ok-has_clash.ensures ∙ c.if-branch.false) c.in_ok-sources.ensures.told c.in_ok-sources.ensures.fit c.in-Err.ensures.fault c.fault_stop.ensures

pub returns-in-Err-clause-reads : goal.returns-in-Err-clause-reads
returns-in-Err-clause-reads g c = record {
  same = c.in_ok-sources.ensures.reads.same ∙ c.in_ok-doc.ensures.reads.same;
  cause = stop_cause _ _ _ c.args.words.now.document c.in-Err.fault c.fault_stop.result c.fault_stop.ensures;
  failed = stood _ _ (c.in_ok-sources.ensures.reads.failed.only (λ is. cc) ∙ c.in_ok-doc.ensures.reads.failed.only (λ is. cc))
      (not_failed (Err c.fault_stop.result) (stop_cause ⊥ ⊥ ⊥ c.args.words.now.document c.in-Err.fault c.fault_stop.result c.fault_stop.ensures));
  absences_rise = omega (arith, c.in_ok-doc.ensures.reads.absences_rise, c.in_ok-sources.ensures.reads.absences_rise);
  taken_rise = omega (arith, c.in_ok-doc.ensures.reads.taken_rise, c.in_ok-sources.ensures.reads.taken_rise);
}

pub answer_done-requires-clause-whole : goal.answer_done-requires-clause-whole
answer_done-requires-clause-whole g c =
    whole c.in_ok-sources.sources.built.net c.in_ok-doc.doc c.in-Ok.found.0 c.args.words.now.bound c.args.words.now.conflicts c.in-Ok.found.1 c.in-Ok.ensures.found.answered.is_answer

pub returns-in_err-done-clause-answer : goal.returns-in_err-done-clause-answer
returns-in_err-done-clause-answer g c =
    let p = err_from_is_err_and c.from_residual-in_err-done.result c.from_residual-in_err-done.ensures.1 in
    rw (p.1, p.2) tt

pub returns-in_err-done-clause-reads : goal.returns-in_err-done-clause-reads
returns-in_err-done-clause-reads g c =
    let p = err_from_is_err_and c.from_residual-in_err-done.result c.from_residual-in_err-done.ensures.1 in
    rw (p.1, p.2) (record {
      same = c.in_ok-sources.ensures.reads.same ∙ c.in_ok-doc.ensures.reads.same;
      cause = tt;
      failed = stood _ _ (c.in_ok-sources.ensures.reads.failed.only (λ is. cc) ∙ c.in_ok-doc.ensures.reads.failed.only (λ is. cc)) (λ is. cc);
      absences_rise = omega (arith, c.in_ok-doc.ensures.reads.absences_rise, c.in_ok-sources.ensures.reads.absences_rise);
      taken_rise = omega (arith, c.in_ok-doc.ensures.reads.taken_rise, c.in_ok-sources.ensures.reads.taken_rise);
    })

pub returns-clause-answer : goal.returns-clause-answer
returns-clause-answer g c =
    repaired (g.S.Store.held c.args.store.now) (g.S.Store.held c.read_document.new.store) c.in_ok-doc.ensures.reads.same
    c.args.words.now c.in_ok-doc.doc c.in_ok-sources.sources c.in-Ok.found.0 c.in-Ok.found.1 c.in_ok-done.done c.in_ok-doc.ensures.told
    (sym c.in_ok-has_clash.ensures ∙ c.if-branch.false) c.in_ok-sources.ensures.told c.in_ok-doc.ensures.well_formed c.in_ok-sources.ensures.fit c.in_ok-sources.ensures.built
    c.in_ok-sources.ensures.count c.in_ok-sources.ensures.bytes c.in-Ok.ensures.found c.in_ok-done.ensures
