use Rattle.std.proofs.Common.{ℕ, ◌∷◌, take, map}
use Rattle.condition_formula.specs.Clauses.{yes, no}
use Rattle.condition_formula.specs.Writing.{Adds}
use Rattle.condition_formula.proofs.variables.each_implies.Given as goal

abbrev pub invariant-loop-one : goal.invariant-loop-one
invariant-loop-one l = Adds l.fn.out l.out (map (λ (v : ℕ). no v ∷ map yes l.others) (take l.one-index l.ones))
