use Rattle.std.proofs.Common.{◌≡◌, true, ℕ, ◌-◌, map}
use Rattle.condition_formula.specs.Lists.{upto}
use Rattle.condition_formula.specs.Formulas.{cell}
use Rattle.cnf_types.specs.Literals.{literal}
use Rattle.condition_formula.proofs.formula.tops.Given as goal

abbrev pub invariant-loop-number : goal.invariant-loop-number
invariant-loop-number l = l.tops ≡ map (λ (n : ℕ). literal (cell l.above.first l.above.columns (l.edits - 1) n) true) (upto l.number)
