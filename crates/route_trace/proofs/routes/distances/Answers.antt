use Rattle.std.proofs.Common.{◌≡◌, List, sym, ◌∙◌, subst, arith}
use Rattle.std.proofs.lemmas.Result.{IfOk-weaker}
use Rattle.route_trace.specs.declared.steps.Step.{Step}
use Rattle.route_trace.specs.Routes.{flagged, distance_map, AreDistances, TellReach}
use Rattle.route_trace.specs.Steps.{IsStableOver}
use Rattle.route_trace.proofs.StableSteps.{owner_within, are_distances, tell_reach}
use Rattle.route_trace.proofs.routes.distances.Goals as goal

pub settle-requires-clause-owner : goal.settle-requires-clause-owner
settle-requires-clause-owner c =
    omega (arith, owner_within c.args.net.now c.requires.valid c.args.to c.in-Some.owner.0 c.in-Some.ensures.found, c.len.ensures)

pub returns-clause-stable : goal.returns-clause-stable
returns-clause-stable c =
    IfOk-weaker c.of.result (λ list. list ≡ c.in_ok-settle.field-0.items) (AreDistances c.args.net.now c.args.to (flagged c.args.down.now))
    (λ list e. subst (AreDistances c.args.net.now c.args.to (flagged c.args.down.now)) (sym e)
    (are_distances c.args.net.now c.requires.valid c.args.to (flagged c.args.down.now) c.in_ok-steps.steps.items c.in-Some.owner.0 c.in_ok-settle.field-0.items
    c.in_ok-steps.ensures.exact c.in-Some.ensures.found (c.in_ok-settle.ensures.whole ∙ c.len.ensures)
    (subst (λ (xs : List Step). IsStableOver xs c.in-Some.owner.0 (distance_map c.in_ok-settle.field-0.items)) c.deref.ensures.value c.in_ok-settle.ensures.stable)))
    c.of.ensures.ok

pub returns-clause-reach : goal.returns-clause-reach
returns-clause-reach c =
    IfOk-weaker c.of.result (AreDistances c.args.net.now c.args.to (flagged c.args.down.now)) (TellReach c.args.net.now c.args.to (flagged c.args.down.now))
    (λ list are. tell_reach c.args.net.now c.requires.valid c.args.to (flagged c.args.down.now) list are) (returns-clause-stable c)
