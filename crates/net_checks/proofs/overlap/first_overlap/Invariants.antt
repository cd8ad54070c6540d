use Rattle.std.proofs.Common.{◌-◌, ◌<◌, ◌≤◌, length}
use Rattle.net_checks.specs.Claims.{ClearBelow}
use Rattle.net_checks.proofs.overlap.first_overlap.Given as goal

abbrev pub invariant-loop-low : goal.invariant-loop-low
invariant-loop-low l = record {
  clear : ClearBelow l.net l.low;
  not_clear : ¬ ClearBelow l.net l.high;
  order : l.low < l.high;
  within : l.high ≤ length l.net.faces;
}

abbrev pub decreases-loop-low : goal.decreases-loop-low
decreases-loop-low l = l.high - l.low
