use Rattle.std.proofs.Common.{◌≡◌, take}
use Rattle.std.specs.Prelude.{map}
use Rattle.net_model.specs.Lists.{permits}
use Rattle.class_graph.proofs.answers.list_answers.Given as goal

abbrev pub invariant-loop-list : goal.invariant-loop-list
invariant-loop-list l = l.answers ≡ map (λ list. permits list.entries l.packet) (take l.list-index l.list-items)
