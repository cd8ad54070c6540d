use Rattle.std.proofs.Common.{ℕ, [], ◌∷◌, take, map}
use Rattle.condition_formula.specs.Clauses.{no}
use Rattle.condition_formula.specs.Writing.{Adds}
use Rattle.condition_formula.proofs.variables.excludes_each.Given as goal

abbrev pub invariant-loop-other : goal.invariant-loop-other
invariant-loop-other l = Adds l.fn.out l.out (map (λ (v : ℕ). no l.one ∷ no v ∷ []) (take l.other-index l.others))
