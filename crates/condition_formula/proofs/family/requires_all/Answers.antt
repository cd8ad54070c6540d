use Rattle.std.proofs.Common.{[], ◌∷◌}
use Rattle.condition_formula.specs.declared.condition.Condition.{Condition}
use Rattle.condition_formula.specs.Clauses.{no, affirmed}
use Rattle.condition_formula.specs.declared.condition.Condition.TheVariants.{Always}
use Rattle.condition_formula.proofs.Adding.{Adds-each_from}
use Rattle.condition_formula.proofs.family.requires_all.Goals as goal

pub loop-condition-preserved : goal.loop-condition-preserved
loop-condition-preserved c =
    Adds-each_from (λ (k : Condition). no c.args.variable ∷ affirmed k ∷ []) c.args.out.now c.loop-condition.out c.requires_condition.new.out
    c.args.conditions.now c.loop-condition.condition-index Always c.loop-condition-test.true c.loop-condition.invariant c.in_ok-requires_condition.ensures
