use Rattle.std.proofs.Common.{◌<◌, length, ap, arith}
use Rattle.route_trace.specs.declared.steps.Step.{Step}
use Rattle.route_trace.proofs.GroupedSteps.{groups_more}
use Rattle.route_trace.proofs.groups.grouped.Goals as goal

pub loop-step-preserved : goal.loop-step-preserved
loop-step-preserved c =
    let z : Step = record { link = record { 0 = 0 }; tail = record { 0 = 0 }; head = record { 0 = 0 }; cost = 0 } in
    let within : c.loop-step.step-index < length c.args.steps.now = omega arith in
    groups_more c.args.end c.args.steps.now c.loop-step.step-index z c.args.routers c.at-at.result.0 c.loop-step.groups.items c.index_mut.result.now c.push.new.self
    within (ap (λ r. r.0) c.at-at.ensures) (omega (arith, ap (λ r. r.0) c.at-at.ensures, c.requires c.loop-step.step-index z within))
    c.index_mut.ensures.value c.in_ok-push.ensures.items c.loop-step.invariant
