use Rattle.std.proofs.Common.{ℕ, [], ◌∷◌, take, map}
use Rattle.condition_formula.specs.Clauses.{no}
use Rattle.condition_formula.specs.Writing.{Adds}
use Rattle.condition_formula.proofs.variables.none_of.Given as goal

abbrev pub invariant-loop-variable : goal.invariant-loop-variable
invariant-loop-variable l = Adds l.fn.out l.out (map (λ (v : ℕ). no v ∷ []) (take l.variable-index l.variables))
