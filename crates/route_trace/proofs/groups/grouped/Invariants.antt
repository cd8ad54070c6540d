use Rattle.std.proofs.Common.{take}
use Rattle.route_trace.specs.Steps.{AreGroups}
use Rattle.route_trace.proofs.groups.grouped.Given as goal

abbrev pub invariant-loop-step : goal.invariant-loop-step
invariant-loop-step l = AreGroups l.end (take l.step-index l.steps) l.routers l.groups.items
