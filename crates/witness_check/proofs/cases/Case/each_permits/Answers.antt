use Rattle.std.proofs.Common.{rules}
use Rattle.net_model.specs.Forwarding.{ArcPermitsEach}
use Rattle.witness_check.proofs.RoutedArcs.{none_found}
use Rattle.witness_check.proofs.cases.Case.each_permits.Goals as goal

pub returns : goal.returns
returns c =
    none_found c.args.self.now.net.now c.args.self.now.to (ArcPermitsEach c.args.self.now.net.now c.args.self.now.whole) _ _ c.first_routed.result c.is_none.result
    c.is_none.ensures c.first_routed.ensures.routed c.first_routed.ensures.yes c.first_routed.ensures.none (λ rows k. search rules) (λ rows k. search rules)
