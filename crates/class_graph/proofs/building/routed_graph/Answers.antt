use Rattle.class_graph.proofs.building.routed_graph.Goals as goal

pub graph_of-requires-clause-routed : goal.graph_of-requires-clause-routed
graph_of-requires-clause-routed c = c.requires.pair.1.routed
