use Rattle.std.proofs.Common.{ℕ, take, ◌↔◌}
use Rattle.std.specs.Prelude.{Any, Contains}
use Rattle.net_checks.specs.FarEnds.{LinkLeadsTo}
use Rattle.net_checks.proofs.peers.far_ends.Given as goal

abbrev pub invariant-loop-link : goal.invariant-loop-link
invariant-loop-link l = (pair : ℕ × ℕ) → Contains l.ends.keys pair ↔ Any (LinkLeadsTo l.net.faces pair) (take l.link-index l.link-items)
