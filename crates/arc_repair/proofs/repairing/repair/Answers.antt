use Rattle.std.proofs.Common.{inl, List}
use Rattle.std.proofs.lemmas.Result.{err_from_is_err_and}
use Rattle.net_model.specs.Policies.{MeetsDocument}
use Rattle.edit_list.specs.declared.edit_kinds.Edit.{Edit}
use Rattle.edit_list.specs.Ordered.{IsInOrder}
use Rattle.edit_list.specs.Prices.{none_of}
use Rattle.arc_repair.specs.Answers.{IsRepairAnswer, IsRepairFault, IsUntouched, KeepsLimits}
use Rattle.arc_repair.specs.Repairs.{Mends}
use Rattle.arc_repair.proofs.Glue.{of_each}
use Rattle.arc_repair.proofs.repairing.repair.Goals as goal

pub repair_of-requires-clause-failures : goal.repair_of-requires-clause-failures
repair_of-requires-clause-failures c = c.requires.failures

pub returns-in_err-list-clause-fault : goal.returns-in_err-list-clause-fault
returns-in_err-list-clause-fault c =
    let p = err_from_is_err_and c.from_residual.result c.from_residual.ensures.1 in
    let limit : IsRepairFault c.args.net.now c.args.doc.now c.args.bound c.in_err-list.field-0.0 = inl c.in_err-list.ensures.limit in
    rw (p.1, p.2) limit

pub returns-in_err-answer-clause-fault : goal.returns-in_err-answer-clause-fault
returns-in_err-answer-clause-fault c =
    let p = err_from_is_err_and c.from_residual-in_err-answer.result c.from_residual-in_err-answer.ensures.1 in
    rw (p.1, p.2) c.in_err-answer.ensures.fault

-- what holds of the list that was made holds of each list of the edits
pub returns-clause-answer : goal.returns-clause-answer
returns-clause-answer c =
    of_each c.edit_lists_are_one.ensures c.args.net.now c.args.doc.now c.in_ok-list.list c.requires.valid c.in_ok-list.ensures.edits
    (λ (l : List Edit). IsRepairAnswer c.args.net.now c.args.doc.now l c.args.bound c.args.limit c.in_ok-answer.answer) c.in_ok-answer.ensures.answer

pub returns-clause-met : goal.returns-clause-met
returns-clause-met c =
    of_each c.edit_lists_are_one.ensures c.args.net.now c.args.doc.now c.in_ok-list.list c.requires.valid c.in_ok-list.ensures.edits
    (λ (l : List Edit). Mends c.args.net.now c.args.doc.now l (none_of l) → IsUntouched l c.in_ok-answer.answer) c.in_ok-answer.ensures.met

pub returns-clause-meets : goal.returns-clause-meets
returns-clause-meets c =
    of_each c.edit_lists_are_one.ensures c.args.net.now c.args.doc.now c.in_ok-list.list c.requires.valid c.in_ok-list.ensures.edits
    (λ (l : List Edit). IsInOrder c.args.net.now → MeetsDocument c.args.net.now c.args.doc.now → IsUntouched l c.in_ok-answer.answer) c.in_ok-answer.ensures.meets

pub returns-clause-limits : goal.returns-clause-limits
returns-clause-limits c =
    of_each c.edit_lists_are_one.ensures c.args.net.now c.args.doc.now c.in_ok-list.list c.requires.valid c.in_ok-list.ensures.edits
    (λ (l : List Edit). KeepsLimits c.args.net.now c.args.doc.now l c.args.bound) c.in_ok-answer.ensures.limits
