use Rattle.std.proofs.Common.{ℕ}
use Rattle.std.specs.List.{flat_map}
use Rattle.condition_formula.specs.Lists.{upto}
use Rattle.condition_formula.specs.Formulas.{cell}
use Rattle.condition_formula.specs.Writing.{Adds}
use Rattle.condition_formula.specs.Reaching.{family_parts}
use Rattle.condition_formula.proofs.paths.Paths.families.Given as goal

abbrev pub invariant-loop-number : goal.invariant-loop-number
invariant-loop-number l = Adds l.fn.out l.out (flat_map (λ (k : ℕ). family_parts l.self.q.now l.self.nodes (cell l.self.used.first l.self.used.columns k)) (upto l.number))
