use Rattle.class_graph.proofs.ClassDenials.{denied_class}
use Rattle.class_graph.proofs.denials.denied_link.Goals as goal

pub returns : goal.returns
returns c =
    denied_class c.args.net.now c.args.class c.requires.uniform c.args.pair.now.to c.in_ok-answers.answers c.in_ok-answers.ensures c.denied_by.result
    c.denied_by.ensures.found c.denied_by.ensures.none

pub denied_by-requires-clause-routed : goal.denied_by-requires-clause-routed
denied_by-requires-clause-routed c = c.requires.pair.1.routed
