use Rattle.std.proofs.Common.{◌≡◌, ◌++◌}
use Rattle.route_trace.specs.Routes.{distance_map}
use Rattle.route_trace.specs.Steps.{hops_of}
use Rattle.route_trace.specs.TraceText.{route_lines}
use Rattle.route_trace.proofs.trace.push_routes.Given as goal

abbrev pub invariant-loop-place : goal.invariant-loop-place
invariant-loop-place l = l.text.items ≡ l.initial.text.items ++ route_lines l.net l.distances (hops_of l.steps (distance_map l.distances)) l.place
