use Rattle.std.proofs.Common.{ℕ, ◌<◌, Bool, false}
use Rattle.witness_check.specs.Cases.{EachOver, TestGives}
use Rattle.witness_check.proofs.cases.Case.first_routed.Given as goal

abbrev pub invariant-loop-place : goal.invariant-loop-place
invariant-loop-place g l = (k : ℕ) → k < l.place → (f : Bool) → EachOver l.self.net.now l.self.to k f (TestGives (goal.F-post g l.test) false)
