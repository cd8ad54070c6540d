use Rattle.std.proofs.Common.{◌≡◌, ◌<◌, length}
use Rattle.graph_flow.specs.Residual.{sent}
use Rattle.graph_flow.specs.Marks.{depth_of, mark_at, way_to}
use Rattle.graph_flow.proofs.flow.send.Given as goal

abbrev pub invariant-loop-at : goal.invariant-loop-at
invariant-loop-at l = record {
  within : l.at < length l.marks;
  units : sent l.units (way_to l.marks l.at) ≡ sent l.initial.units (way_to l.marks l.node);
}

abbrev pub decreases-loop-at : goal.decreases-loop-at
decreases-loop-at l = depth_of (mark_at l.marks l.at)
