use Rattle.std.proofs.Common.{◌≡◌, take}
use Rattle.proof_check.proofs.rows.Rows.of.Given as goal

abbrev pub invariant-loop-clause : goal.invariant-loop-clause
invariant-loop-clause l = l.rows ≡ take l.clause-index l.clauses
