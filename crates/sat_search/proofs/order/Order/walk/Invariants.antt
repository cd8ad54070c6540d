use Rattle.std.proofs.Common.{◌≡◌, length}
use Rattle.sat_core.specs.Trails.{is_on}
use Rattle.sat_core.specs.Rest.{IsAtRest}
use Rattle.sat_core.specs.States.{IsSound}
use Rattle.sat_search.specs.Orders.{IsOrder, KeepsClauses, HoldsUnset}
use Rattle.sat_search.proofs.order.Order.walk.Given as goal

abbrev pub invariant-loop-var : goal.invariant-loop-var
invariant-loop-var l = record {
  order : IsOrder l.initial.core.vars l.self;
  rates : l.self ≡ record l.initial.self { heap = l.self.heap };
  waiting : HoldsUnset l.core.vars l.core.trail l.self;
  sound : IsSound l.core;
  kept : KeepsClauses l.initial.core l.core;
  rest : IsAtRest l.core.clauses (is_on l.core.trail);
}

abbrev pub decreases-loop-var : goal.decreases-loop-var
decreases-loop-var l = length l.self.heap.vars
