use Rattle.std.proofs.Common.{ℕ}
use Rattle.std.specs.List.{flat_map}
use Rattle.condition_formula.specs.Lists.{upto}
use Rattle.condition_formula.specs.Writing.{Adds}
use Rattle.condition_formula.specs.Reaching.{clear_parts}
use Rattle.condition_formula.proofs.paths.all_clear.Given as goal

abbrev pub invariant-loop-class : goal.invariant-loop-class
invariant-loop-class l = Adds l.fn.out l.out (flat_map (λ (k : ℕ). flat_map (clear_parts k) l.q.arcs) (upto l.class))
