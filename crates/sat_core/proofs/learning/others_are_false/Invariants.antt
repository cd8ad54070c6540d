use Rattle.std.proofs.Common.{ℕ, ◌-◌, ◌<◌, ◌≤◌, IsTrue, length}
use Rattle.cnf_types.specs.Literals.{negated}
use Rattle.clause_pool.specs.Pools.{lit_at}
use Rattle.sat_core.specs.Trails.{is_on}
use Rattle.sat_core.proofs.learning.others_are_false.Given as goal

abbrev pub invariant-loop-place : goal.invariant-loop-place
invariant-loop-place l = record {
  low : 1 ≤ l.place;
  false_ : (k : ℕ) → 1 ≤ k → k < l.place → k < length l.lits → IsTrue (is_on l.trail.entries (negated (lit_at l.lits k)));
}

abbrev pub decreases-loop-place : goal.decreases-loop-place
decreases-loop-place l = length l.initial.lits - l.place
