use Rattle.std.proofs.Common.{refl}
use Rattle.class_graph.proofs.Between.{class_graph_of}
use Rattle.class_graph.proofs.building.build.Goals as goal

pub returns : goal.returns
returns c = record {
  ends = c.in_ok-pair.ensures.ends;
  are_ends = c.in_ok-pair.ensures.are_ends;
  is_graph = class_graph_of c.args.net.now c.args.class c.requires.uniform c.in_ok-pair.pair c.in_ok-answers.answers c.in_ok-answers.ensures c.args.mode _ refl refl
      c.is_open.ensures c.is_open-2.ensures c.in_ok-graph.ensures c.in_ok-pair.ensures.ends c.in_ok-pair.ensures.is_pair;
}

pub graph_of-requires-clause-routed : goal.graph_of-requires-clause-routed
graph_of-requires-clause-routed c = c.in_ok-pair.ensures.is_pair.routed
