use Rattle.std.proofs.Common.{◌≡◌, take}
use Rattle.graph_flow.proofs.disjoint_paths.flags.Given as goal

abbrev pub invariant-loop-node : goal.invariant-loop-node
invariant-loop-node l = l.flags ≡ take l.node l.flow.reached
