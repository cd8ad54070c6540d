use Rattle.std.proofs.Common.{refl}
use Rattle.class_graph.proofs.Between.{class_graph_of}
use Rattle.class_graph.proofs.ClassParts.{open_graph}
use Rattle.class_graph.specs.Parts.{part_of}
use Rattle.class_graph.proofs.parts.class_part.Goals as goal

pub returns : goal.returns
returns c = λ ends g is graph.
    class_graph_of c.args.net.now c.args.class c.requires.uniform c.args.pair.now c.in_ok-answers.answers c.in_ok-answers.ensures c.args.mode (part_of g _) refl refl
    c.is_open.ensures c.is_open-2.ensures
    (open_graph c.args.net.now c.requires.valid c.args.mode c.in_ok-answers.answers c.in_ok-table.table c.in_ok-table.ensures c.args.pair.now.to g graph) ends is
