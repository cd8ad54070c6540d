use Rattle.std.proofs.Common.{◌≡◌, ℕ, length, take}
use Rattle.proof_check.specs.Knowledge.{without_clauses}
use Rattle.proof_check.specs.View.{clause_in}
use Rattle.proof_check.proofs.live.Live.remove_all.Given as goal

abbrev pub invariant-loop-id : goal.invariant-loop-id
invariant-loop-id l = record {
  clauses : (j : ℕ) → clause_in l.self j ≡ without_clauses (clause_in l.fn.self) (take l.id-index l.ids) j;
  rows : length l.self.near ≡ length l.fn.self.near;
}
