use Rattle.std.proofs.Common.{true}
use Rattle.class_graph.specs.Building.{Answered, IsGraphBelow, number}
use Rattle.class_graph.proofs.building.graph_of.Given as goal

abbrev pub invariant-loop-place : goal.invariant-loop-place
invariant-loop-place l = IsGraphBelow l.net l.pair.to (Answered l.mode l.answers) (number l.place true) l.graph
