use Rattle.std.proofs.Common.{ℕ, ◌<◌}
use Rattle.class_graph.specs.Denials.{IsDeniedBy}
use Rattle.class_graph.proofs.denials.denied_by.Given as goal

abbrev pub invariant-loop-place : goal.invariant-loop-place
invariant-loop-place l = (link : ℕ) → link < l.place → ¬ IsDeniedBy l.net l.pair.to l.answers link
