use Rattle.std.proofs.Common.{List, length, sym, ◌∙◌, subst, arith}
use Rattle.std.specs.Prelude.{All}
use Rattle.route_trace.specs.declared.steps.Step.{Step}
use Rattle.route_trace.specs.Routes.{flagged, distance_map}
use Rattle.route_trace.specs.Steps.{IsFit, IsStableOver}
use Rattle.route_trace.proofs.StableSteps.{owner_within}
use Rattle.route_trace.proofs.TraceLines.{owns_host, is_trace, text_from}
use Rattle.route_trace.proofs.trace.trace_text.Goals as goal

pub settle-requires-clause-owner : goal.settle-requires-clause-owner
settle-requires-clause-owner c =
    omega (
      arith,
      c.len.ensures,
      owner_within c.args.net.now c.requires.valid c.in-Some.host c.host_face-target.result.now.router.0
          (owns_host c.args.net.now c.args.to c.in-Some.host c.host_face-target.result.now c.host_face-target.ensures c.in-Some.is),
    )

pub push_routes-requires : goal.push_routes-requires
push_routes-requires c = subst (All (IsFit (length c.args.net.now.routers))) (sym c.deref-2.ensures.value) c.in_ok-steps.ensures.fit

pub returns : goal.returns
returns c =
    is_trace c.args.net.now c.requires.valid (flagged c.args.down.now) c.args.from c.args.to c.in-Some.host c.host_face-source.result.now c.host_face-target.result.now
    c.in_ok-steps.steps.items c.in_ok-distances.distances.items c.push_routes.new.text.items c.host_face-source.ensures c.host_face-target.ensures c.in-Some.is
    c.in_ok-steps.ensures.exact (c.in_ok-distances.ensures.whole ∙ c.len.ensures)
    (subst (λ (xs : List Step). IsStableOver xs c.host_face-target.result.now.router.0 (distance_map c.in_ok-distances.distances.items)) c.deref.ensures.value c.in_ok-distances.ensures.stable)
    (text_from c.args.net.now c.args.from c.args.to c.host_face-source.result.now c.host_face-target.result.now c.in_ok-steps.steps.items c.in_ok-distances.distances.items
    c.new-text.result.items c.push_head.new.text.items c.push_routes.new.text.items c.router_name-at_source.result.now c.router_name-at_target.result.now c.deref-2.result.now c.deref-3.result.now
    c.new-text.ensures.items c.in_ok-push_head.ensures c.in_ok-push_routes.ensures c.router_name-at_source.ensures c.router_name-at_target.ensures c.deref-2.ensures.value c.deref-3.ensures.value)
