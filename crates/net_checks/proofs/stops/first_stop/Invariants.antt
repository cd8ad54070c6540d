use Rattle.std.proofs.Common.{take}
use Rattle.net_checks.specs.Stopping.{FindsFirst, StopsAtSome}
use Rattle.net_checks.proofs.stops.first_stop.Given as goal

abbrev pub invariant-loop-link : goal.invariant-loop-link
invariant-loop-link l = FindsFirst (StopsAtSome l.net l.configs (take l.link-index l.link-items)) l.first
