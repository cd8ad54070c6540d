use Rattle.std.proofs.Common.{◌≡◌, take}
use Rattle.route_trace.specs.Routes.{distance_map}
use Rattle.route_trace.specs.Steps.{hops_of}
use Rattle.route_trace.proofs.hops.hops.Given as goal

abbrev pub invariant-loop-step : goal.invariant-loop-step
invariant-loop-step l = l.links.items ≡ hops_of (take l.step-index l.steps) (distance_map l.distances) l.at.0
