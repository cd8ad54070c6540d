use Rattle.std.proofs.Common.{rules}
use Rattle.witness_check.proofs.RoutedArcs.{step_found, no_step}
use Rattle.witness_check.proofs.cases.Case.step.Goals as goal

pub returns-clause-found : goal.returns-clause-found
returns-clause-found c =
    step_found c.args.self.now.net.now c.args.self.now.to c.args.router.0 c.args.link.0 _ (λ _. ⊥) c.routed_on.result c.routed_on.ensures.routed c.routed_on.ensures.over
    c.routed_on.ensures.yes (λ rows k. search rules)

pub returns-clause-none : goal.returns-clause-none
returns-clause-none c =
    no_step c.args.self.now.net.now c.args.self.now.to c.args.router.0 c.args.link.0 (λ _. ⊥) _ c.routed_on.result c.routed_on.ensures.none (λ rows k. search rules)
