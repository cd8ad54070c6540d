use Rattle.std.proofs.Common.{◌∙◌, Bool, Option, List, refl, sym, ap, subst, length, arith}
use Rattle.std.specs.Prelude.{All, IfSome, IsNone}
use Rattle.net_model.specs.declared.verdicts.Verdict.{Verdict}
use Rattle.price_descent.specs.declared.found.Found.{Found}
use Rattle.price_descent.specs.Outcomes.{found_steps}
use Rattle.arc_repair.specs.Answers.{ShowsFew}
use Rattle.arc_repair.specs.Repairs.{Mends}
use Rattle.arc_repair.specs.Search.{AreYesAfter, IsCheapestFound, IsSearched}
use Rattle.arc_repair.proofs.Repaired.{found_done}
use Rattle.arc_repair.proofs.repairing.answer_of.Goals as goal

pub overflow_cast-price : goal.overflow_cast-price
overflow_cast-price g c =
    let found : IsCheapestFound c.args.net.now c.args.doc.now c.args.list.now c.args.bound c.in-Cheapest.offer c.in-Cheapest.log.steps =
    subst (λ (f : Found). IsSearched c.args.net.now c.args.doc.now c.args.list.now c.args.bound c.args.limit f) c.in-Cheapest.is c.requires.searched in
    omega (arith, found.affordable, c.requires.bound)

pub yeses_after-requires-clause-flags : goal.yeses_after-requires-clause-flags
yeses_after-requires-clause-flags g c =
    let found : IsCheapestFound c.args.net.now c.args.doc.now c.args.list.now c.args.bound c.in-Cheapest.offer c.in-Cheapest.log.steps =
    subst (λ (f : Found). IsSearched c.args.net.now c.args.doc.now c.args.list.now c.args.bound c.args.limit f) c.in-Cheapest.is c.requires.searched in
    ap length c.slice.ensures.items ∙ found.mends.one_each

pub unreachable-requires : goal.unreachable-requires
unreachable-requires g c =
    let found : IsCheapestFound c.args.net.now c.args.doc.now c.args.list.now c.args.bound c.in-Cheapest.offer c.in-Cheapest.log.steps =
    subst (λ (f : Found). IsSearched c.args.net.now c.args.doc.now c.args.list.now c.args.bound c.args.limit f) c.in-Cheapest.is c.requires.searched in
    let none : IsNone c.in_ok-verdicts-in-Cheapest.field-0 = subst (λ (o : Option (List Verdict)). IsNone o) (sym c.in-None.is) refl in
    c.in_ok-verdicts-in-Cheapest.ensures.none none (subst (λ (flags : List Bool). Mends c.args.net.now c.args.doc.now c.args.list.now flags) (sym c.slice.ensures.items) found.mends)

pub returns-in-Nothing-clause-answer : goal.returns-in-Nothing-clause-answer
returns-in-Nothing-clause-answer g c = subst (λ (f : Found). IsSearched c.args.net.now c.args.doc.now c.args.list.now c.args.bound c.args.limit f) c.in-Nothing.is c.requires.searched

pub returns-in-Nothing-clause-lines : goal.returns-in-Nothing-clause-lines
returns-in-Nothing-clause-lines g c = sym (ap found_steps c.in-Nothing.is)

pub returns-in-Budget-clause-answer : goal.returns-in-Budget-clause-answer
returns-in-Budget-clause-answer g c = subst (λ (f : Found). IsSearched c.args.net.now c.args.doc.now c.args.list.now c.args.bound c.args.limit f) c.in-Budget.is c.requires.searched

pub returns-in-Budget-clause-lines : goal.returns-in-Budget-clause-lines
returns-in-Budget-clause-lines g c = sym (ap found_steps c.in-Budget.is)

pub returns-in-Some-clause-answer : goal.returns-in-Some-clause-answer
returns-in-Some-clause-answer g c =
    let found : IsCheapestFound c.args.net.now c.args.doc.now c.args.list.now c.args.bound c.in-Cheapest.offer c.in-Cheapest.log.steps =
    subst (λ (f : Found). IsSearched c.args.net.now c.args.doc.now c.args.list.now c.args.bound c.args.limit f) c.in-Cheapest.is c.requires.searched in
    let there : AreYesAfter c.args.net.now c.args.doc.now c.args.list.now c.slice.result.now c.in-Some.verdicts =
    subst (λ (o : Option (List Verdict)). IfSome o (AreYesAfter c.args.net.now c.args.doc.now c.args.list.now c.slice.result.now)) c.in-Some.is c.in_ok-verdicts-in-Cheapest.ensures.some in
    let judgement : AreYesAfter c.args.net.now c.args.doc.now c.args.list.now c.in-Cheapest.offer.values c.in-Some.verdicts =
    subst (λ (flags : List Bool). AreYesAfter c.args.net.now c.args.doc.now c.args.list.now flags c.in-Some.verdicts) c.slice.ensures.items there in
    found_done c.args.net.now c.args.doc.now c.args.list.now c.args.bound c.in-Cheapest.offer.price c.in-Cheapest.offer c.in-Some.verdicts c.in-Cheapest.log.steps c.requires.bound refl found judgement

pub returns-in-Some-clause-lines : goal.returns-in-Some-clause-lines
returns-in-Some-clause-lines g c = sym (ap found_steps c.in-Cheapest.is)

pub returns-in-Some-clause-few : goal.returns-in-Some-clause-few
returns-in-Some-clause-few g c =
    subst (λ (o : Option (List Verdict)). IfSome o (All ShowsFew)) c.in-Some.is c.in_ok-verdicts-in-Cheapest.ensures.few
