use Rattle.std.proofs.Common.{ℕ, ◌<◌}
use Rattle.net_checks.specs.Sorting.{IsPackedAt}
use Rattle.net_checks.proofs.claims.Claim.neighbours_are_linked_or_apart.Given as goal

abbrev pub invariant-loop-place : goal.invariant-loop-place
invariant-loop-place l = (j : ℕ) → j < l.place → IsPackedAt l.claims j
