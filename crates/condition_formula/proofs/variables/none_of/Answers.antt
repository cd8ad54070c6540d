use Rattle.std.proofs.Common.{ℕ, [], ◌∷◌}
use Rattle.condition_formula.specs.Clauses.{no}
use Rattle.condition_formula.proofs.Adding.{Adds-each_number, Adds-every}
use Rattle.condition_formula.proofs.variables.none_of.Goals as goal

pub loop-variable-preserved : goal.loop-variable-preserved
loop-variable-preserved c =
    Adds-each_number (λ (v : ℕ). no v ∷ []) c.args.out.now c.loop-variable.out c.not.new.out c.args.variables.now c.loop-variable.variable-index 0
    c.loop-variable-test.true c.loop-variable.invariant c.in_ok-not.ensures

pub returns : goal.returns
returns c =
    Adds-every (λ (v : ℕ). no v ∷ []) c.args.out.now c.loop-variable.out c.args.variables.now c.loop-variable.variable-index c.loop-variable-test.false c.loop-variable.invariant
