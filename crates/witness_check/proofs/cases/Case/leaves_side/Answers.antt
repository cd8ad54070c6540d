use Rattle.std.proofs.Common.{rules}
use Rattle.net_model.specs.Routing.{Arc, tail_router, head_router}
use Rattle.net_model.specs.Witnesses.{IsOn}
use Rattle.witness_check.proofs.RoutedArcs.{one_found}
use Rattle.witness_check.proofs.cases.Case.leaves_side.Goals as goal

pub returns : goal.returns
returns c =
    let found = one_found c.args.self.now.net.now c.args.self.now.to (λ (arc : Arc). IsOn c.args.side.now (tail_router arc) × (¬ IsOn c.args.side.now (head_router arc))) _ _
    c.args.link.0 c.routed_on.result c.is_some.result c.is_some.ensures c.routed_on.ensures.routed c.routed_on.ensures.over c.routed_on.ensures.yes c.routed_on.ensures.none
    (λ rows k. search rules) (λ rows k. search rules) in (
      λ t. let h = found.0 t in
          record { arc = h.0; over = h.1; leaving = record { is_arc = h.2.0; routed = h.2.1; tail = h.3.0; head = h.3.1 } },
      λ h. found.1 (h.arc, h.over, (h.leaving.is_arc, h.leaving.routed), (h.leaving.tail, h.leaving.head)),
    )
