use Rattle.std.proofs.Common.{◌≡◌, ◌<◌, ◌+◌, ◌++◌, length, reverse, vec_len}
use Rattle.graph_flow.specs.Marks.{depth_of, mark_at, way_to}
use Rattle.graph_flow.proofs.closure.arcs_back.Given as goal

abbrev pub invariant-loop-at : goal.invariant-loop-at
invariant-loop-at l = record {
  within : l.at < length l.marks;
  arcs : way_to l.marks l.node ≡ way_to l.marks l.at ++ reverse l.back.items;
  steps : vec_len l.back + depth_of (mark_at l.marks l.at) ≡ depth_of (mark_at l.marks l.node);
}

abbrev pub decreases-loop-at : goal.decreases-loop-at
decreases-loop-at l = depth_of (mark_at l.marks l.at)
