use Rattle.std.proofs.Common.{◌∙◌, ◌≤◌, Bool, Option, List, [], refl, sym, ap, subst, length, arith}
use Rattle.std.specs.Prelude.{All, IfSome}
use Rattle.std.proofs.lemmas.List.Elements.{All-nil}
use Rattle.std.proofs.lemmas.Result.{err_from_is_err_and}
use Rattle.clean_logs.specs.CleanLogs.{additions}
use Rattle.net_model.specs.declared.verdicts.Verdict.{Verdict}
use Rattle.edit_list.specs.declared.claims.Claim.TheVariants.{Repaired}
use Rattle.proof_log.specs.declared.steps.Step.{Step}
use Rattle.proof_log.specs.Texts.{HasLine}
use Rattle.arc_repair.specs.declared.answer.Answer.{Answer}
use Rattle.arc_repair.specs.declared.answer.Answer.TheVariants.{Done}
use Rattle.arc_repair.specs.Answers.{answer_steps, AnswersFew, IsRepairAnswer, IsUntouched, ShowsFew}
use Rattle.arc_repair.specs.Repairs.{Mends}
use Rattle.arc_repair.specs.Search.{AreYesAfter}
use Rattle.arc_repair.proofs.Glue.{formula_fault, never_mended, out_of_memory}
use Rattle.arc_repair.proofs.Repaired.{untouched_done}
use Rattle.arc_repair.proofs.Untouched.{met_in_order, none_for_each}
use Rattle.arc_repair.proofs.Yeses.{never_some}
use Rattle.arc_repair.proofs.repairing.repair_of.Goals as goal

pub encode_packed-requires-clause-failures : goal.encode_packed-requires-clause-failures
encode_packed-requires-clause-failures g c = c.requires.failures

pub returns-in_err-encoded-clause-fault : goal.returns-in_err-encoded-clause-fault
returns-in_err-encoded-clause-fault g c =
    let p = err_from_is_err_and c.from_residual.result c.from_residual.ensures.1 in
    rw (p.1, p.2)
    (formula_fault c.args.net.now c.args.doc.now c.args.list.now c.requires.edits c.args.bound c.in_err-encoded.field-0.0 c.requires.classes c.requires.few_edits c.in_err-encoded.ensures.fault)

pub returns-in_err-none-clause-fault : goal.returns-in_err-none-clause-fault
returns-in_err-none-clause-fault g c =
    let p = err_from_is_err_and c.from_residual-in_err-none.result c.from_residual-in_err-none.ensures.1 in
    rw (p.1, p.2) (out_of_memory c.args.net.now c.args.doc.now c.args.bound)

pub returns-in_err-verdicts-clause-fault : goal.returns-in_err-verdicts-clause-fault
returns-in_err-verdicts-clause-fault g c =
    let p = err_from_is_err_and c.from_residual-in_err-verdicts.result c.from_residual-in_err-verdicts.ensures.1 in
    rw (p.1, p.2) (out_of_memory c.args.net.now c.args.doc.now c.args.bound)

pub returns-in_err-found-clause-fault : goal.returns-in_err-found-clause-fault
returns-in_err-found-clause-fault g c =
    let p = err_from_is_err_and c.from_residual-in_err-found.result c.from_residual-in_err-found.ensures.1 in
    rw (p.1, p.2) (out_of_memory c.args.net.now c.args.doc.now c.args.bound)

pub returns-in_err-answer-clause-fault : goal.returns-in_err-answer-clause-fault
returns-in_err-answer-clause-fault g c =
    let p = err_from_is_err_and c.from_residual-in_err-answer.result c.from_residual-in_err-answer.ensures.1 in
    rw (p.1, p.2) (out_of_memory c.args.net.now c.args.doc.now c.args.bound)

pub yeses_after-requires-clause-flags : goal.yeses_after-requires-clause-flags
yeses_after-requires-clause-flags g c = ap length (c.slice.ensures.items ∙ c.in_ok-none.ensures) ∙ none_for_each c.args.list.now

pub returns-in-Some-clause-answer : goal.returns-in-Some-clause-answer
returns-in-Some-clause-answer g c =
    let net = c.args.net.now in
    let doc = c.args.doc.now in
    let list = c.args.list.now in
    let there : AreYesAfter net doc list c.slice.result.now c.in-Some.verdicts =
    subst (λ (o : Option (List Verdict)). IfSome o (AreYesAfter net doc list c.slice.result.now)) c.in-Some.is c.in_ok-verdicts.ensures.some in
    let judgement : AreYesAfter net doc list c.in_ok-none.none c.in-Some.verdicts = subst (λ (flags : List Bool). AreYesAfter net doc list flags c.in-Some.verdicts) c.slice.ensures.items there in
    let done : IsRepairAnswer net doc list c.args.bound c.args.limit (Done (Repaired 0 c.args.bound c.in_ok-none.none c.in-Some.verdicts) (record { steps = [] })) =
    untouched_done net doc list c.requires.valid c.requires.countable c.args.bound c.in_ok-none.none c.in-Some.verdicts c.in_ok-encoded.encoded.formula c.in_ok-encoded.encoded.tops
    c.requires.bound c.in_ok-none.ensures judgement c.in_ok-encoded.ensures.formula in
    subst (λ (answer : Answer). IsRepairAnswer net doc list c.args.bound c.args.limit answer) (sym c.untouched.ensures) done

pub returns-in-Some-clause-met : goal.returns-in-Some-clause-met
returns-in-Some-clause-met g c = λ mends. subst (λ (answer : Answer). IsUntouched c.args.list.now answer) (sym c.untouched.ensures) (refl, c.in_ok-none.ensures, refl)

pub returns-in-Some-clause-meets : goal.returns-in-Some-clause-meets
returns-in-Some-clause-meets g c = λ order meets. subst (λ (answer : Answer). IsUntouched c.args.list.now answer) (sym c.untouched.ensures) (refl, c.in_ok-none.ensures, refl)

pub returns-in-Some-clause-lines : goal.returns-in-Some-clause-lines
returns-in-Some-clause-lines g c = subst (λ (steps : List Step). All HasLine steps) (sym (ap answer_steps c.untouched.ensures)) (All-nil HasLine)

pub returns-in-Some-clause-few : goal.returns-in-Some-clause-few
returns-in-Some-clause-few g c =
    let few : All ShowsFew c.in-Some.verdicts = subst (λ (o : Option (List Verdict)). IfSome o (All ShowsFew)) c.in-Some.is c.in_ok-verdicts.ensures.few in
    subst (λ (answer : Answer). AnswersFew answer) (sym c.untouched.ensures) few

pub returns-in-Some-clause-within : goal.returns-in-Some-clause-within
returns-in-Some-clause-within g c =
    let none : additions [] ≤ c.args.limit = omega arith in
    subst (λ (steps : List Step). additions steps ≤ c.args.limit) (sym (ap answer_steps c.untouched.ensures)) none

pub returns-in-Some-clause-limits : goal.returns-in-Some-clause-limits
returns-in-Some-clause-limits g c = record { classes = c.requires.classes; edits = c.requires.few_edits; formula = c.in_ok-encoded.ensures.limits }

pub returns-clause-met : goal.returns-clause-met
returns-clause-met g c =
    let wrong : ¬ Mends c.args.net.now c.args.doc.now c.args.list.now c.slice.result.now =
    c.in_ok-verdicts.ensures.none (never_some c.in_ok-verdicts.field-0 (λ verdicts. c.in_default.not-Some verdicts)) in
    λ mends. never_mended c.args.net.now c.args.doc.now c.args.list.now c.slice.result.now c.in_ok-answer.answer (c.slice.ensures.items ∙ c.in_ok-none.ensures) wrong mends

pub returns-clause-meets : goal.returns-clause-meets
returns-clause-meets g c =
    let wrong : ¬ Mends c.args.net.now c.args.doc.now c.args.list.now c.slice.result.now =
    c.in_ok-verdicts.ensures.none (never_some c.in_ok-verdicts.field-0 (λ verdicts. c.in_default.not-Some verdicts)) in
    λ order meets.
    never_mended c.args.net.now c.args.doc.now c.args.list.now c.slice.result.now c.in_ok-answer.answer (c.slice.ensures.items ∙ c.in_ok-none.ensures) wrong
    (met_in_order c.args.net.now c.args.doc.now c.args.list.now c.requires.valid order meets)

pub returns-clause-lines : goal.returns-clause-lines
returns-clause-lines g c = subst (λ (steps : List Step). All HasLine steps) (sym c.in_ok-answer.ensures.lines) c.in_ok-found.ensures.lines

pub returns-clause-within : goal.returns-clause-within
returns-clause-within g c = subst (λ (steps : List Step). additions steps ≤ c.args.limit) (sym c.in_ok-answer.ensures.lines) c.in_ok-found.ensures.within

pub returns-clause-limits : goal.returns-clause-limits
returns-clause-limits g c = record { classes = c.requires.classes; edits = c.requires.few_edits; formula = c.in_ok-encoded.ensures.limits }
