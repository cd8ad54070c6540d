use Rattle.std.proofs.Common.{[]}
use Rattle.route_trace.specs.declared.steps.End.TheVariants.{Tail}
use Rattle.route_trace.specs.Steps.{AreGroups}
use Rattle.route_trace.proofs.groups.empty_groups.Given as goal

abbrev pub invariant-loop-router : goal.invariant-loop-router
invariant-loop-router l = AreGroups Tail [] l.router l.groups.items
