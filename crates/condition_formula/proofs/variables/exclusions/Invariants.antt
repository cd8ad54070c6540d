use Rattle.std.proofs.Common.{ℕ, length}
use Rattle.condition_formula.specs.declared.writer.Writer.{Writer}
use Rattle.condition_formula.specs.Reaching.{exclusions}
use Rattle.condition_formula.specs.Writing.{Adds, AreSmall}
use Rattle.condition_formula.proofs.variables.exclusions.Given as goal

abbrev pub invariant-loop-one : goal.invariant-loop-one
invariant-loop-one l = record {
  small : AreSmall l.rest;
  rest : (end : Writer) → Adds l.out end (exclusions (λ (v : ℕ). v) l.rest) → Adds l.fn.out end (exclusions (λ (v : ℕ). v) l.variables);
}

abbrev pub decreases-loop-one : goal.decreases-loop-one
decreases-loop-one l = length l.rest
