use Rattle.std.proofs.Common.{ℕ, ◌+◌, ◌-◌, ◌<◌, ◌≤◌}
use Rattle.std.specs.Prelude.{IsTrue}
use Rattle.net_model.specs.Lists.{permits}
use Rattle.net_checks.proofs.session_packets.denies_between.Given as goal

abbrev pub invariant-loop-service : goal.invariant-loop-service
invariant-loop-service l = record {
  above : l.low ≤ l.service;
  permitted : (service : ℕ) → l.low ≤ service → service < l.service → IsTrue (permits l.list.entries (record { from = l.from; to = l.to; service = service }));
}

abbrev pub decreases-loop-service : goal.decreases-loop-service
decreases-loop-service l = (l.high + 1) - l.service
