use Rattle.std.proofs.Common.{[], ◌∷◌, take}
use Rattle.std.specs.Prelude.{if◌then◌else◌}
use Rattle.std.specs.List.{flat_map}
use Rattle.condition_formula.specs.declared.network.ConditionArc.{ConditionArc}
use Rattle.condition_formula.specs.Conditions.{is_counted}
use Rattle.condition_formula.specs.Formulas.{cell}
use Rattle.condition_formula.specs.Sides.{step_parts}
use Rattle.condition_formula.specs.Writing.{Adds}
use Rattle.condition_formula.proofs.sides.steps.Given as goal

abbrev pub invariant-loop-arc : goal.invariant-loop-arc
invariant-loop-arc l =
    Adds l.fn.out l.out (flat_map (λ (arc : ConditionArc). if is_counted l.q.demand arc then step_parts (cell l.reached.first l.reached.columns l.class) l.class arc ∷ [] else [])
    (take l.arc-index l.arc-items))
