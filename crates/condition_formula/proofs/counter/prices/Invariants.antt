use Rattle.std.proofs.Common.{ℕ, ◌+◌, ◌++◌}
use Rattle.std.specs.List.{flat_map}
use Rattle.condition_formula.specs.Lists.{upto}
use Rattle.condition_formula.specs.Formulas.{cell}
use Rattle.condition_formula.specs.Writing.{Adds}
use Rattle.std.specs.Prelude.{slice_index_or}
use Rattle.condition_formula.specs.Prices.{kept_parts, added_parts}
use Rattle.condition_formula.proofs.counter.prices.Given as goal

abbrev pub invariant-loop-edit : goal.invariant-loop-edit
invariant-loop-edit l =
    Adds l.fn.out l.out (flat_map
    (λ (e : ℕ). flat_map (λ (n : ℕ). kept_parts (cell l.above.first l.above.columns) e n ++ added_parts (cell l.above.first l.above.columns) (slice_index_or l.weights e 0) e n)
    (upto (l.bound + 1))) (upto l.edit))
