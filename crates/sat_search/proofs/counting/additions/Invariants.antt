use Rattle.std.proofs.Common.{◌≡◌, ◌≤◌, take}
use Rattle.clean_logs.specs.CleanLogs.{additions}
use Rattle.sat_search.proofs.counting.additions.Given as goal

abbrev pub invariant-loop-step : goal.invariant-loop-step
invariant-loop-step l = record {
  count : l.count ≡ additions (take l.step-index l.steps);
  few : l.count ≤ l.step-index;
}
