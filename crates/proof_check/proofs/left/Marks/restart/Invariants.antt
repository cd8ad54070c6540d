use Rattle.std.proofs.Common.{◌≡◌, length, take}
use Rattle.cnf_types.specs.declared.literal.Lit.{Lit}
use Rattle.proof_check.specs.Propagation.{is_among}
use Rattle.proof_check.specs.Marks.{is_marked}
use Rattle.proof_check.proofs.left.Marks.restart.Given as goal

abbrev pub invariant-loop-lit : goal.invariant-loop-lit
invariant-loop-lit l = record {
  marked : (m : Lit) → is_marked l.self m ≡ is_among (take l.lit-index l.lits) m;
  flags : length l.self.near ≡ length l.fn.self.near;
}
