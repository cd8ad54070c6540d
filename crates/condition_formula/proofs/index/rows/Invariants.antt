use Rattle.std.proofs.Common.{◌≡◌}
use Rattle.condition_formula.proofs.Rows.{first_rows}
use Rattle.condition_formula.proofs.index.rows.Given as goal

abbrev pub invariant-loop-place : goal.invariant-loop-place
invariant-loop-place l = l.rows.items ≡ first_rows l.q l.pick l.count l.place
