use Rattle.std.proofs.Common.{ℕ, ◌++◌}
use Rattle.condition_formula.specs.Formulas.{cell}
use Rattle.condition_formula.specs.Prices.{kept_parts, added_parts}
use Rattle.condition_formula.proofs.Adding.{Adds-more, Adds-then}
use Rattle.condition_formula.proofs.counter.counted.Goals as goal

pub loop-number-preserved : goal.loop-number-preserved
loop-number-preserved c =
    Adds-more (λ (n : ℕ). kept_parts (cell c.args.above.first c.args.above.columns) c.args.edit n ++ added_parts (cell c.args.above.first c.args.above.columns)
    c.args.weight c.args.edit n) c.args.out.now c.loop-number.out c.added.new.out c.loop-number.number c.loop-number.invariant
    (Adds-then _ _ _ _ _ c.in_ok-kept.ensures c.in_ok-added.ensures)
