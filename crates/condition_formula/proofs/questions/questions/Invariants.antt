use Rattle.std.proofs.Common.{◌≡◌, ◌+◌, length}
use Rattle.condition_formula.specs.declared.writer.Writer.{Writer}
use Rattle.condition_formula.specs.declared.network.Question.{Question}
use Rattle.condition_formula.specs.Writing.{Adds}
use Rattle.std.proofs.Common.{◌≤◌, All, sum_by}
use Rattle.condition_formula.specs.Formulas.{question_size, questions_parts}
use Rattle.condition_formula.proofs.questions.questions.Given as goal

abbrev pub invariant-loop-q : goal.invariant-loop-q
invariant-loop-q l = record {
  clauses : (end : Writer) → Adds l.out end (questions_parts l.nodes l.links l.next l.rest) → Adds l.fn.out end (questions_parts l.nodes l.links l.first l.questions);
  next : l.next + sum_by (question_size l.nodes) l.rest ≡ l.first + sum_by (question_size l.nodes) l.questions;
  arcs : All (λ (q : Question). length q.arcs ≤ 65536) l.rest;
}

abbrev pub decreases-loop-q : goal.decreases-loop-q
decreases-loop-q l = length l.rest
