use Rattle.std.proofs.Common.{◌≡◌, refl, rules}
use Rattle.net_model.specs.Routing.{Arc, tail_router, head_router}
use Rattle.witness_check.proofs.RoutedArcs.{one_found}
use Rattle.arc_nodecut.proofs.cases.joins.Goals as goal

pub returns : goal.returns
returns c =
    let found = one_found c.args.case.now.net.now c.args.case.now.to
    (λ (arc : Arc). (tail_router arc ≡ c.args.case.now.source.now.router.0) × (head_router arc ≡ c.args.case.now.target.now.router.0)) _ _ c.args.link.0 c.routed_on.result
    c.is_some.result c.is_some.ensures c.routed_on.ensures.routed c.routed_on.ensures.over c.routed_on.ensures.yes c.routed_on.ensures.none
    (λ rows k. search rules) (λ rows k. search rules) in (
      λ t. let h = found.0 t in record {
        from_a = h.0.from_a;
        hop = record { arc = h.0; is_arc = h.2.0; routed = h.2.1; over = h.1; direction = refl {a = h.0.from_a}; tail_is = h.3.0; head_is = h.3.1 };
      },
      λ h. found.1 (h.hop.arc, h.hop.over, (h.hop.is_arc, h.hop.routed), (h.hop.tail_is, h.hop.head_is)),
    )
