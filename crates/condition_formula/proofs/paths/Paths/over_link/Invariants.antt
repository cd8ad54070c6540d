use Rattle.std.proofs.Common.{◌≡◌, ℕ, map}
use Rattle.condition_formula.specs.Formulas.{cell}
use Rattle.condition_formula.specs.Writing.{AreSmall}
use Rattle.condition_formula.specs.Reaching.{over_link}
use Rattle.condition_formula.proofs.paths.Paths.over_link.Given as goal

abbrev pub invariant-loop-number : goal.invariant-loop-number
invariant-loop-number l = record {
  variables : l.variables.items ≡ map (λ (item : ℕ × ℕ). cell l.self.used.first l.self.used.columns item.0 item.1) (over_link l.self.q.now l.number l.link);
  small : AreSmall l.variables.items;
}
