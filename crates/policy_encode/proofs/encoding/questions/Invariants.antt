use Rattle.std.proofs.Common.{List, take}
use Rattle.std.specs.List.{AllZip}
use Rattle.edit_list.specs.declared.edit_kinds.Edit.{Edit}
use Rattle.policy_encode.specs.Questions.{IsQuestion}
use Rattle.policy_encode.specs.Finding.{IsIndexOf}
use Rattle.policy_encode.proofs.encoding.questions.Given as goal

abbrev pub invariant-loop-policy : goal.invariant-loop-policy
invariant-loop-policy l = (list : List Edit) → IsIndexOf list l.index → AllZip (IsQuestion l.net l.doc.policies list) (take l.policy-index l.doc.policies) l.questions
