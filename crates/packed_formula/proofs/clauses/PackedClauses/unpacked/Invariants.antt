use Rattle.std.proofs.Common.{◌≡◌, take}
use Rattle.packed_formula.proofs.clauses.PackedClauses.unpacked.Given as goal

abbrev pub invariant-loop-at : goal.invariant-loop-at
invariant-loop-at l = l.clauses ≡ take l.at l.self
