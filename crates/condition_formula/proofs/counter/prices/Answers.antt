use Rattle.std.proofs.Common.{ℕ, ◌+◌, ◌++◌}
use Rattle.std.specs.List.{flat_map}
use Rattle.condition_formula.specs.Lists.{upto}
use Rattle.condition_formula.specs.Formulas.{cell}
use Rattle.std.specs.Prelude.{slice_index_or}
use Rattle.condition_formula.specs.Prices.{kept_parts, added_parts}
use Rattle.condition_formula.proofs.Adding.{Adds-more}
use Rattle.condition_formula.proofs.counter.prices.Goals as goal

pub loop-edit-preserved : goal.loop-edit-preserved
loop-edit-preserved c =
    Adds-more (λ (e : ℕ). flat_map
    (λ (n : ℕ). kept_parts (cell c.args.above.first c.args.above.columns) e n ++ added_parts (cell c.args.above.first c.args.above.columns)
    (slice_index_or c.args.weights.now e 0) e n) (upto (c.args.bound + 1))) c.args.out.now c.loop-edit.out c.counted.new.out c.loop-edit.edit c.loop-edit.invariant
    c.in_ok-counted.ensures
