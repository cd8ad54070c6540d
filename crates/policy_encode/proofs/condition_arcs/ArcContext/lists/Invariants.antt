use Rattle.std.proofs.Common.{◌≡◌, List, take, map}
use Rattle.edit_list.specs.declared.edit_kinds.Edit.{Edit}
use Rattle.policy_encode.specs.Answers.{arc_lists}
use Rattle.policy_encode.specs.Finding.{IsIndexOf}
use Rattle.policy_encode.proofs.condition_arcs.ArcContext.lists.Given as goal

abbrev pub invariant-loop-class : goal.invariant-loop-class
invariant-loop-class l = (list : List Edit) → IsIndexOf list l.self.index.now → l.lists ≡ map (arc_lists l.self.net.now list l.tail l.head l.head_row) (take l.class-index l.class-items)
