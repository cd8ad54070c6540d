use Rattle.std.proofs.Common.{inl, inr, subst}
use Rattle.std.specs.Prelude.{Ok, Err}
use Rattle.std.proofs.lemmas.Result.{err_from_is_err_and}
use Rattle.net_model.specs.declared.policies.Policy.{Policy}
use Rattle.net_model.specs.declared.rows.Network.{Network}
use Rattle.reach_commands.specs.Added.{AddsPolicy}
use Rattle.reach_commands.specs.PreferRuns.{prefers_policy, AreNamed, IsPrefersOf, IsPrefersAnswer, IsPrefersRefusal}
use Rattle.reach_commands.proofs.AddedPolicy.{is_one}
use Rattle.reach_commands.proofs.AddedStops.{ends_stopped, classes_stopped}
use Rattle.reach_commands.proofs.PrefersAnswered.{routers_stopped, answered}
use Rattle.reach_commands.proofs.preferring.prefers_over.Goals as goal

pub returns-in_err-judged-clause-answer : goal.returns-in_err-judged-clause-answer
returns-in_err-judged-clause-answer c =
    let p = err_from_is_err_and c.from_residual.result c.from_residual.ensures.1 in
    rw (p.1, p.2) (ends_stopped (IsPrefersRefusal c.args.words.now) (IsPrefersAnswer c.args.words.now) c.args.words.now.document c.in_err-judged.field-0.0
    (prefers_policy c.args.words.now) c.args.net.now c.args.policies
    (λ files r ends. inr (inl ends))
    (subst (λ (q : Policy). AddsPolicy c.args.words.now.document c.args.net.now c.args.policies q (Err c.in_err-judged.field-0.0)) c.reach_policy-policy.ensures c.in_err-judged.ensures.told))

pub returns-in_err-wanted-clause-answer : goal.returns-in_err-wanted-clause-answer
returns-in_err-wanted-clause-answer c =
    let p = err_from_is_err_and c.from_residual-in_err-wanted.result c.from_residual-in_err-wanted.ensures.1 in
    rw (p.1, p.2) (routers_stopped c.args.words.now c.args.net.now c.args.policies c.in_ok-judged.judged c.in_err-wanted.field-0.0
    (subst (λ (q : Policy). AddsPolicy c.args.words.now.document c.args.net.now c.args.policies q (Ok c.in_ok-judged.judged)) c.reach_policy-policy.ensures c.in_ok-judged.ensures.told)
    c.in_err-wanted.ensures)

pub returns-in_err-count_classes-clause-answer : goal.returns-in_err-count_classes-clause-answer
returns-in_err-count_classes-clause-answer c =
    let p = err_from_is_err_and c.from_residual-in_err-count_classes.result c.from_residual-in_err-count_classes.ensures.1 in
    rw (p.1, p.2) (classes_stopped (IsPrefersRefusal c.args.words.now) (IsPrefersAnswer c.args.words.now) c.args.words.now.document c.in_err-count_classes.field-0.0
    (prefers_policy c.args.words.now) c.args.net.now c.args.policies c.in_ok-judged.judged
    (λ files r many same. inr (inr (inr (record {
      many = many;
      wanted = c.in_ok-wanted.wanted;
      named = subst (λ (n : Network). AreNamed n c.args.words.now.routers c.in_ok-wanted.wanted) same c.in_ok-wanted.ensures;
    }))))
    (subst (λ (q : Policy). AddsPolicy c.args.words.now.document c.args.net.now c.args.policies q (Ok c.in_ok-judged.judged)) c.reach_policy-policy.ensures c.in_ok-judged.ensures.told)
    c.in_err-count_classes.ensures)

pub answer_last-requires-clause-one : goal.answer_last-requires-clause-one
answer_last-requires-clause-one c = is_one c.args.policies c.in_ok-judged.judged c.reach_policy-policy.result c.in_ok-judged.ensures.told.1

pub returns-in_err-done-clause-answer : goal.returns-in_err-done-clause-answer
returns-in_err-done-clause-answer c =
    let p = err_from_is_err_and c.from_residual-in_err-done.result c.from_residual-in_err-done.ensures.1 in
    rw (p.1, p.2) (λ held doc same told. tt)

pub returns-clause-answer : goal.returns-clause-answer
returns-clause-answer c =
    answered c.args.words.now c.args.net.now c.args.policies c.in_ok-judged.judged c.in_ok-wanted.wanted c.in_ok-done.done c.requires
    (subst (λ (q : Policy). AddsPolicy c.args.words.now.document c.args.net.now c.args.policies q (Ok c.in_ok-judged.judged)) c.reach_policy-policy.ensures c.in_ok-judged.ensures.told)
    c.in_ok-wanted.ensures c.in_ok-count_classes.ensures
    (subst (λ (q : Policy). IsPrefersOf c.args.net.now c.in_ok-judged.judged q c.in_ok-wanted.wanted c.in_ok-done.done) c.reach_policy-policy.ensures c.in_ok-done.ensures.answer)
    c.in_ok-done.ensures.judging
