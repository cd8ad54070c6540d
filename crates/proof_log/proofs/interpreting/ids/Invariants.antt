use Rattle.std.proofs.Common.{◌≡◌, map, take, unsigned_abs}
use Rattle.proof_log.proofs.interpreting.ids.Given as goal

abbrev pub invariant-loop-number : goal.invariant-loop-number
invariant-loop-number l = l.ids.items ≡ map unsigned_abs (take l.number-index l.numbers)
