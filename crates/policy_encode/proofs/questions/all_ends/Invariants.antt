use Rattle.std.proofs.Common.{◌≡◌, List, take, map}
use Rattle.edit_list.specs.declared.edit_kinds.Edit.{Edit}
use Rattle.policy_encode.specs.Answers.{class_ends}
use Rattle.policy_encode.specs.Finding.{IsIndexOf}
use Rattle.policy_encode.proofs.questions.all_ends.Given as goal

abbrev pub invariant-loop-class : goal.invariant-loop-class
invariant-loop-class l = (list : List Edit) → IsIndexOf list l.index → l.ends ≡ map (class_ends l.net list l.source l.source_row l.target) (take l.class-index l.class-items)
