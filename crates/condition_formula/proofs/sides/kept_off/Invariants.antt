use Rattle.std.proofs.Common.{ℕ}
use Rattle.std.specs.List.{flat_map}
use Rattle.condition_formula.specs.Lists.{upto}
use Rattle.condition_formula.specs.Formulas.{cell}
use Rattle.condition_formula.specs.Sides.{side_parts}
use Rattle.condition_formula.specs.Writing.{Adds}
use Rattle.condition_formula.proofs.sides.kept_off.Given as goal

abbrev pub invariant-loop-class : goal.invariant-loop-class
invariant-loop-class l = Adds l.fn.out l.out (flat_map (λ (class : ℕ). side_parts l.q (cell l.reached.first l.reached.columns class) class) (upto l.class))
