use Rattle.std.proofs.Common.{◌≡◌, drop}
use Rattle.proof_check.specs.Propagation.{chain_fault, is_among}
use Rattle.proof_check.specs.Marks.{is_marked}
use Rattle.proof_check.specs.View.{clause_in}
use Rattle.proof_check.proofs.hints.follow.Given as goal

abbrev pub invariant-loop-place : goal.invariant-loop-place
invariant-loop-place l = chain_fault (clause_in l.live) (is_marked l.marks) l.place (drop l.place l.hints) ≡ chain_fault (clause_in l.live) (is_among l.lits) 0 l.hints
