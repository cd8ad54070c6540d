use Rattle.std.proofs.Common.{◌-◌}
use Rattle.traffic_classes.proofs.halving.+add_leaves.Given as goal

abbrev pub decreases-add_leaves : goal.decreases-add_leaves
decreases-add_leaves l = 32 - l.whole.len
