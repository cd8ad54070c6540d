use Rattle.std.proofs.Common.{◌≡◌, map, take}
use Rattle.cnf_types.specs.Dimacs.{literal_of}
use Rattle.proof_check.proofs.checker.read_literals.Given as goal

abbrev pub invariant-loop-number : goal.invariant-loop-number
invariant-loop-number l = l.lits.items ≡ map literal_of (take l.number-index l.numbers)
