use Rattle.std.proofs.Common.{ℕ, take, ◌↔◌}
use Rattle.std.specs.Prelude.{Contains, IsSome}
use Rattle.net_rules.specs.Neighbors.{remote_of}
use Rattle.net_checks.proofs.peers.remotes.Given as goal

abbrev pub invariant-loop-line : goal.invariant-loop-line
invariant-loop-line l = (peer : ℕ) → Contains l.peers.keys peer ↔ IsSome (remote_of (take l.line-index l.lines) peer)
