use Rattle.std.proofs.Common.{[], ◌∷◌, take, map}
use Rattle.condition_formula.specs.declared.condition.Condition.{Condition}
use Rattle.condition_formula.specs.Clauses.{no, affirmed}
use Rattle.condition_formula.specs.Writing.{Adds}
use Rattle.condition_formula.proofs.family.requires_all.Given as goal

abbrev pub invariant-loop-condition : goal.invariant-loop-condition
invariant-loop-condition l = Adds l.fn.out l.out (map (λ (k : Condition). no l.variable ∷ affirmed k ∷ []) (take l.condition-index l.conditions))
