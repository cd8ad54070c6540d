use Rattle.std.proofs.Common.{rules}
use Rattle.net_model.specs.Routing.{Arc}
use Rattle.net_model.specs.Forwarding.{ArcPermits}
use Rattle.witness_check.proofs.RoutedArcs.{one_found}
use Rattle.witness_check.proofs.cases.Case.denies.Goals as goal

pub returns : goal.returns
returns c =
    let found = one_found c.args.self.now.net.now c.args.self.now.to (λ (arc : Arc). ¬ ArcPermits c.args.self.now.net.now arc c.args.p) _ _ c.args.link.0 c.routed_on.result
    c.is_some.result c.is_some.ensures c.routed_on.ensures.routed c.routed_on.ensures.over c.routed_on.ensures.yes c.routed_on.ensures.none
    (λ rows k. search rules) (λ rows k. search rules) in (
      λ t. let h = found.0 t in record { arc = h.0; over = h.1; routed = h.2; denied = h.3 },
      λ h. found.1 (h.arc, h.over, h.routed, h.denied),
    )
