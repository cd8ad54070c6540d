use Rattle.class_graph.proofs.LastGraphs.{serving}
use Rattle.class_graph.proofs.last_graph.refresh_graph.Goals as goal

pub returns-then-serves-clause-graph : goal.returns-then-serves-clause-graph
returns-then-serves-clause-graph c =
    serving c.args.net.now c.args.pair.now.to c.args.pair.now.routed c.args.last.now c.requires.pair.1.routed c.requires.last (c.serves.ensures c.if-serves.true)
