use Rattle.std.proofs.Common.{◌≡◌, take}
use Rattle.traffic_classes.specs.Leaves.{inner_marks}
use Rattle.traffic_classes.proofs.halving.marks_inside.Given as goal

abbrev pub invariant-loop-mark : goal.invariant-loop-mark
invariant-loop-mark l = l.inner.items ≡ inner_marks l.whole (take l.mark-index l.marks)
