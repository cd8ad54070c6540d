use Rattle.std.proofs.Common.{◌≡◌, ◌+◌, ◌≤◌, length, All, IsFalse}
use Rattle.std.specs.List.{list_any}
use Rattle.proof_check.specs.Logs.{adds_empty}
use Rattle.clean_logs.specs.CleanLogs.{additions}
use Rattle.call_tests.proofs.searches.core_and_log.Given as goal

abbrev pub invariant-loop-id : goal.invariant-loop-id
invariant-loop-id l = record {
  level : l.core.level ≡ 0;
  vars : l.core.vars ≡ 6;
  last_id : l.core.last_id + 1 ≡ l.id;
  known : All (λ c. c.id ≤ l.core.last_id) l.core.clauses;
  long : length l.log.steps + 10 ≡ l.id;
  few : additions l.log.steps ≤ length l.log.steps;
  filled : IsFalse (list_any adds_empty l.log.steps);
}
