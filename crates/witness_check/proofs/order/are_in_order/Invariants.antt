use Rattle.std.proofs.Common.{ℕ, ◌+◌, ◌<◌, get_or}
use Rattle.net_model.specs.declared.verdicts.ClassSide.{ClassSide}
use Rattle.witness_check.specs.Order.{ComesBefore}
use Rattle.witness_check.proofs.order.are_in_order.Given as goal

abbrev pub invariant-loop-place : goal.invariant-loop-place
invariant-loop-place l = (k : ℕ) → k + 1 < l.place → (d : ClassSide) → ComesBefore (get_or l.sides k d).class (get_or l.sides (k + 1) d).class
