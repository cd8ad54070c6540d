use Rattle.std.proofs.Common.{◌≡◌, ◌-◌, ◌≤◌}
use Rattle.clean_logs.specs.CleanLogs.{additions}
use Rattle.sat_search.specs.Searches.{GoesOn}
use Rattle.sat_search.specs.Learners.{IsReady}
use Rattle.sat_search.specs.Orders.{HoldsUnset}
use Rattle.sat_search.proofs.searching.run.Given as goal

abbrev pub invariant-loop-conflict : goal.invariant-loop-conflict
invariant-loop-conflict g l = record {
  follows : GoesOn l.fn.core l.fn.log.steps l.core l.log.steps;
  ready : IsReady l.core.vars l.log.steps l.learner;
  waiting : HoldsUnset l.core.vars l.core.trail l.learner.order;
  added : l.added ≡ additions l.log.steps;
  most : l.added ≤ l.limit;
}

abbrev pub decreases-loop-conflict : goal.decreases-loop-conflict
decreases-loop-conflict g l = l.limit - l.added
