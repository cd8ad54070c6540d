use Rattle.std.proofs.Common.{inl, inr, subst}
use Rattle.std.specs.Prelude.{Ok, Err}
use Rattle.std.proofs.lemmas.Result.{err_from_is_err_and}
use Rattle.net_model.specs.declared.policies.Policy.{Policy}
use Rattle.reach_commands.specs.Added.{AddsPolicy}
use Rattle.reach_commands.specs.Nodes.{nodes_policy, IsNodesOf, IsNodesAnswer, IsNodesRefusal}
use Rattle.reach_commands.proofs.AddedPolicy.{is_one}
use Rattle.reach_commands.proofs.AddedStops.{ends_stopped, classes_stopped}
use Rattle.reach_commands.proofs.NodesAnswered.{answered}
use Rattle.reach_commands.proofs.router_failures.nodes_over.Goals as goal

pub returns-in_err-judged-clause-answer : goal.returns-in_err-judged-clause-answer
returns-in_err-judged-clause-answer c =
    let p = err_from_is_err_and c.from_residual.result c.from_residual.ensures.1 in
    rw (p.1, p.2) (ends_stopped (IsNodesRefusal c.args.words.now) (IsNodesAnswer c.args.words.now) c.args.words.now.document c.in_err-judged.field-0.0
    (nodes_policy c.args.words.now) c.args.net.now c.args.policies
    (λ files r ends. inr (inl ends))
    (subst (λ (q : Policy). AddsPolicy c.args.words.now.document c.args.net.now c.args.policies q (Err c.in_err-judged.field-0.0)) c.reach_policy-policy.ensures c.in_err-judged.ensures.told))

pub returns-in_err-count_classes-clause-answer : goal.returns-in_err-count_classes-clause-answer
returns-in_err-count_classes-clause-answer c =
    let p = err_from_is_err_and c.from_residual-in_err-count_classes.result c.from_residual-in_err-count_classes.ensures.1 in
    rw (p.1, p.2) (classes_stopped (IsNodesRefusal c.args.words.now) (IsNodesAnswer c.args.words.now) c.args.words.now.document c.in_err-count_classes.field-0.0
    (nodes_policy c.args.words.now) c.args.net.now c.args.policies c.in_ok-judged.judged
    (λ files r many same. inr (inr many))
    (subst (λ (q : Policy). AddsPolicy c.args.words.now.document c.args.net.now c.args.policies q (Ok c.in_ok-judged.judged)) c.reach_policy-policy.ensures c.in_ok-judged.ensures.told)
    c.in_err-count_classes.ensures)

pub judge_last-requires-clause-one : goal.judge_last-requires-clause-one
judge_last-requires-clause-one c = is_one c.args.policies c.in_ok-judged.judged c.reach_policy-policy.result c.in_ok-judged.ensures.told.1

pub returns-in_err-done-clause-answer : goal.returns-in_err-done-clause-answer
returns-in_err-done-clause-answer c =
    let p = err_from_is_err_and c.from_residual-in_err-done.result c.from_residual-in_err-done.ensures.1 in
    rw (p.1, p.2) (λ held doc same told. tt)

pub returns-clause-answer : goal.returns-clause-answer
returns-clause-answer c =
    answered c.args.words.now c.args.net.now c.args.policies c.in_ok-judged.judged c.in_ok-done.done c.requires.valid
    (subst (λ (q : Policy). AddsPolicy c.args.words.now.document c.args.net.now c.args.policies q (Ok c.in_ok-judged.judged)) c.reach_policy-policy.ensures c.in_ok-judged.ensures.told)
    c.in_ok-count_classes.ensures
    (subst (λ (q : Policy). IsNodesOf c.args.net.now c.in_ok-judged.judged q c.args.words.now.failures c.in_ok-done.done) c.reach_policy-policy.ensures c.in_ok-done.ensures.answer)
    c.in_ok-done.ensures.judging
