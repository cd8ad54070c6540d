use Rattle.std.proofs.Common.{arith}
use Rattle.class_graph.specs.Building.{Answered}
use Rattle.class_graph.proofs.Growing.{all_arcs}
use Rattle.class_graph.proofs.building.graph_of.Goals as goal

pub returns : goal.returns
returns c = all_arcs c.args.net.now c.args.pair.now.to (Answered c.args.mode c.args.answers.now) c.loop-place.place c.loop-place.graph (omega arith) c.loop-place.invariant
