use Rattle.std.proofs.Common.{ℕ, List, subst}
use Rattle.std.proofs.lemmas.Result.{err_from_is_err_and}
use Rattle.run_inputs.specs.Counts.{StopsFor}
use Rattle.run_inputs.proofs.EditFaults.{stop_cause}
use Rattle.repair_commands.proofs.Repaired.{whole}
use Rattle.generate_commands.proofs.Answered.{counts_stopped, few_each, summed}
use Rattle.generate_commands.specs.Generates.{default_bound, default_conflicts}
use Rattle.generate_commands.proofs.generating.repair_made.Goals as goal

pub returns-in-Err-clause-answer : goal.returns-in-Err-clause-answer
returns-in-Err-clause-answer g c =
    counts_stopped c.args.words.now c.args.made.now c.args.built.now c.in-Err.fault c.fault_stop.result
    c.requires.made c.requires.fit.valid c.in-Err.ensures.fault
    (subst (λ (name : List ℕ). StopsFor name c.in-Err.fault c.fault_stop.result) c.in_ok-document.ensures c.fault_stop.ensures)

pub returns-in-Err-clause-cause : goal.returns-in-Err-clause-cause
returns-in-Err-clause-cause g c = stop_cause ⊥ ⊥ ⊥ c.in_ok-document.document c.in-Err.fault c.fault_stop.result c.fault_stop.ensures

pub judge_all-requires-clause-classes : goal.judge_all-requires-clause-classes
judge_all-requires-clause-classes g c = few_each c.args.built.now.net c.args.made.now.doc c.in-Ok.ensures.found.answered.limits.classes

pub answer_done-requires-clause-whole : goal.answer_done-requires-clause-whole
answer_done-requires-clause-whole g c =
    whole c.args.built.now.net c.args.made.now.doc c.in-Ok.found.0 default_bound default_conflicts c.in-Ok.found.1 c.in-Ok.ensures.found.answered.is_answer

pub returns-in_err-verdicts-clause-answer : goal.returns-in_err-verdicts-clause-answer
returns-in_err-verdicts-clause-answer g c =
    let p = err_from_is_err_and c.from_residual-in_err-verdicts.result c.from_residual-in_err-verdicts.ensures.1 in
    rw (p.1, p.2) tt

pub returns-in_err-verdicts-clause-cause : goal.returns-in_err-verdicts-clause-cause
returns-in_err-verdicts-clause-cause g c =
    let p = err_from_is_err_and c.from_residual-in_err-verdicts.result c.from_residual-in_err-verdicts.ensures.1 in
    rw (p.1, p.2) tt

pub returns-in_err-done-clause-answer : goal.returns-in_err-done-clause-answer
returns-in_err-done-clause-answer g c =
    let p = err_from_is_err_and c.from_residual-in_err-done.result c.from_residual-in_err-done.ensures.1 in
    rw (p.1, p.2) tt

pub returns-in_err-done-clause-cause : goal.returns-in_err-done-clause-cause
returns-in_err-done-clause-cause g c =
    let p = err_from_is_err_and c.from_residual-in_err-done.result c.from_residual-in_err-done.ensures.1 in
    rw (p.1, p.2) tt

pub returns-clause-answer : goal.returns-clause-answer
returns-clause-answer g c =
    summed c.verdicts_are_right.ensures.ends c.verdicts_are_right.ensures.verdicts c.verdicts_are_right.ensures.decide
    c.networks_after_edits_are_valid.ensures.valid c.args.words.now c.args.made.now c.args.built.now c.in-Ok.found.0 c.in-Ok.found.1 c.in_ok-verdicts.verdicts c.in_ok-done.done
    c.requires.made (c.requires.editable c.in-Ok.ensures.found.countable)
    c.in-Ok.ensures.found.answered c.in_ok-verdicts.ensures.right c.in_ok-done.ensures.writes c.in_ok-done.ensures.short c.in_ok-done.ensures.text c.in_ok-done.ensures.status
