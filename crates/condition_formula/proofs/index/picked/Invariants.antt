use Rattle.std.proofs.Common.{◌≡◌, ℕ, filter}
use Rattle.condition_formula.specs.Lists.{upto}
use Rattle.condition_formula.specs.Reaching.{arc_at}
use Rattle.condition_formula.specs.Writing.{picks}
use Rattle.condition_formula.proofs.index.picked.Given as goal

abbrev pub invariant-loop-place : goal.invariant-loop-place
invariant-loop-place l = l.places ≡ filter (λ (place : ℕ). picks l.pick l.number (arc_at l.q place)) (upto l.place)
