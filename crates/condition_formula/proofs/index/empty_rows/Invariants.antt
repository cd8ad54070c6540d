use Rattle.std.proofs.Common.{◌≡◌}
use Rattle.condition_formula.specs.Writing.{empty_rows}
use Rattle.condition_formula.proofs.index.empty_rows.Given as goal

abbrev pub invariant-loop : goal.invariant-loop
invariant-loop l = l.rows.items ≡ empty_rows l.counter
