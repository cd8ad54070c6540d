use Rattle.std.proofs.Common.{◌≡◌, [], replicate}
use Rattle.graph_flow.proofs.graph.Graph.make.Given as goal

abbrev pub invariant-loop-node : goal.invariant-loop-node
invariant-loop-node l = l.rows.items ≡ replicate l._node []
