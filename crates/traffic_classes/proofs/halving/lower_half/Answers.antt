use Rattle.std.proofs.Common.{arith}
use Rattle.traffic_classes.proofs.Ranges.{lower_clear}
use Rattle.traffic_classes.proofs.halving.lower_half.Goals as goal

pub invariant_of-result : goal.invariant_of-result
invariant_of-result c = record {
  in_range = c.args.whole.now.in_range;
  length = omega arith;
  clear = lower_clear c.args.whole.now c.requires;
}
