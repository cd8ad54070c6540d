use Rattle.std.proofs.Common.{ℕ, [], ◌∷◌}
use Rattle.condition_formula.specs.Clauses.{no}
use Rattle.condition_formula.proofs.Adding.{Adds-each_number, Adds-every}
use Rattle.condition_formula.proofs.variables.excludes_each.Goals as goal

pub loop-other-preserved : goal.loop-other-preserved
loop-other-preserved c =
    Adds-each_number (λ (v : ℕ). no c.args.one ∷ no v ∷ []) c.args.out.now c.loop-other.out c.not_both.new.out c.args.others.now c.loop-other.other-index 0
    c.loop-other-test.true c.loop-other.invariant c.in_ok-not_both.ensures

pub returns : goal.returns
returns c =
    Adds-every (λ (v : ℕ). no c.args.one ∷ no v ∷ []) c.args.out.now c.loop-other.out c.args.others.now c.loop-other.other-index c.loop-other-test.false c.loop-other.invariant
