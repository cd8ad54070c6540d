use Rattle.std.proofs.Common.{rules}
use Rattle.witness_check.proofs.RoutedArcs.{none_found}
use Rattle.arc_nodecut.specs.CutParts.{StaysOn}
use Rattle.arc_nodecut.proofs.router_cuts.all_stay_on.Goals as goal

pub returns : goal.returns
returns c =
    none_found c.args.case.now.net.now c.args.case.now.to (StaysOn c.args.routers.now c.args.side.now) _ _ c.first_routed.result c.is_none.result
    c.is_none.ensures c.first_routed.ensures.routed c.first_routed.ensures.yes c.first_routed.ensures.none (λ rows k. search rules) (λ rows k. search rules)
