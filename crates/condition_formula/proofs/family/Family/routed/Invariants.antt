use Rattle.std.proofs.Common.{ℕ, [], ◌∷◌, map}
use Rattle.std.specs.List.{flat_map}
use Rattle.condition_formula.specs.declared.condition.Condition.{Condition}
use Rattle.condition_formula.specs.Lists.{upto}
use Rattle.condition_formula.specs.Clauses.{no, affirmed}
use Rattle.condition_formula.specs.Reaching.{arc_at}
use Rattle.condition_formula.specs.Writing.{Adds, used_by}
use Rattle.condition_formula.proofs.family.Family.routed.Given as goal

abbrev pub invariant-loop-place : goal.invariant-loop-place
invariant-loop-place l = Adds l.fn.out l.out (flat_map (λ (p : ℕ). map (λ (k : Condition). no (used_by l.self p) ∷ affirmed k ∷ []) (arc_at l.self.q.now p).routing) (upto l.place))
