use Rattle.std.proofs.Common.{rules}
use Rattle.witness_check.specs.Sides.{KeepsEach}
use Rattle.witness_check.proofs.RoutedArcs.{none_found}
use Rattle.witness_check.proofs.cases.Case.each_keeps.Goals as goal

pub returns : goal.returns
returns c =
    none_found c.args.self.now.net.now c.args.self.now.to (KeepsEach c.args.self.now.net.now c.args.kind c.args.sides.now) _ _ c.first_routed.result c.is_none.result
    c.is_none.ensures c.first_routed.ensures.routed c.first_routed.ensures.yes c.first_routed.ensures.none (λ rows k. search rules) (λ rows k. search rules)
