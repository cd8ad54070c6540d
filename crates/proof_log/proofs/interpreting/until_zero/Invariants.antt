use Rattle.std.proofs.Common.{◌≡◌, ◌<◌, ℕ, pos, false, get_or}
use Rattle.cnf_types.specs.Dimacs.{is_zero}
use Rattle.proof_log.proofs.interpreting.until_zero.Given as goal

abbrev pub invariant-loop-place : goal.invariant-loop-place
invariant-loop-place l = (k : ℕ) → k < l.place → is_zero (get_or l.numbers k (pos 0)) ≡ false
