use Rattle.std.proofs.Common.{◌≡◌, drop}
use Rattle.proof_check.specs.Propagation.{left, left_of}
use Rattle.proof_check.specs.Marks.{is_marked}
use Rattle.proof_check.proofs.LeftLiterals.{left_from}
use Rattle.proof_check.proofs.left.Marks.left.Given as goal

abbrev pub invariant-loop-lit : goal.invariant-loop-lit
invariant-loop-lit l = left_from l.one (left (is_marked l.self) (drop l.lit-index l.clause)) ≡ left_of (left (is_marked l.self) l.clause)
