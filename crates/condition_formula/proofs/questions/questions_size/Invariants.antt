use Rattle.std.proofs.Common.{◌≡◌, take}
use Rattle.std.proofs.Common.{◌≤◌, ◌*◌, ◌^◌, sum_by}
use Rattle.condition_formula.specs.Formulas.{question_size}
use Rattle.condition_formula.proofs.questions.questions_size.Given as goal

abbrev pub invariant-loop-q : goal.invariant-loop-q
invariant-loop-q l = record {
  total : l.total ≡ sum_by (question_size l.nodes) (take l.q-index l.questions);
  small : l.total ≤ l.q-index * 2 ^ 48;
}
