use Rattle.route_trace.specs.Routes.{flagged}
use Rattle.route_trace.specs.Steps.{AreSteps}
use Rattle.route_trace.proofs.steps.steps.Given as goal

abbrev pub invariant-loop-place : goal.invariant-loop-place
invariant-loop-place l = AreSteps l.net l.fn.to (flagged l.down) l.place l.steps.items
