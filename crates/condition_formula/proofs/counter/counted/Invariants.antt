use Rattle.std.proofs.Common.{ℕ, ◌++◌}
use Rattle.std.specs.List.{flat_map}
use Rattle.condition_formula.specs.Lists.{upto}
use Rattle.condition_formula.specs.Formulas.{cell}
use Rattle.condition_formula.specs.Writing.{Adds}
use Rattle.condition_formula.specs.Prices.{kept_parts, added_parts}
use Rattle.condition_formula.proofs.counter.counted.Given as goal

abbrev pub invariant-loop-number : goal.invariant-loop-number
invariant-loop-number l =
    Adds l.fn.out l.out (flat_map (λ (n : ℕ). kept_parts (cell l.above.first l.above.columns) l.edit n ++ added_parts (cell l.above.first l.above.columns) l.weight l.edit n) (upto l.number))
