use Rattle.std.proofs.Common.{◌≡◌, ◌+◌, length, List, ap, ◌∙◌, arith}
use Rattle.condition_formula.specs.declared.network.Question.{Question}
use Rattle.std.proofs.Common.{◌≤◌, sum_by}
use Rattle.condition_formula.specs.Formulas.{question_size, questions_parts}
use Rattle.std.proofs.lemmas.List.Elements.{All-rest}
use Rattle.std.proofs.lemmas.List.Sums.{sum_by-cons}
use Rattle.condition_formula.proofs.Adding.{questions-step, questions-end}
use Rattle.condition_formula.proofs.questions.questions.Goals as goal

pub loop-q-preserved : goal.loop-q-preserved
loop-q-preserved c =
    let nodes = c.args.nodes in
    let is = c.in-Some.ensures.cases.0 in
    let size : c.question_size-next.result ≡ question_size nodes c.in-Some.q.now = c.question_size-next.ensures.size in
    let sum : sum_by (question_size nodes) c.loop-q.rest.now ≡ question_size nodes c.in-Some.q.now + sum_by (question_size nodes) c.in-Some.others.now =
    ap (λ (qs : List Question). sum_by (question_size nodes) qs) is ∙ sum_by-cons (question_size nodes) c.in-Some.q.now c.in-Some.others.now in
    let before : c.loop-q.next + sum_by (question_size nodes) c.loop-q.rest.now ≡ c.args.first + sum_by (question_size nodes) c.args.questions.now = c.loop-q.invariant.next in
    record {
      clauses = questions-step nodes c.args.links c.loop-q.next c.question_size-next.result c.args.out.now c.loop-q.out c.question.new.out
          (questions_parts nodes c.args.links c.args.first c.args.questions.now)
          c.loop-q.rest.now c.in-Some.others.now c.in-Some.q.now is size c.in_ok-question.ensures c.loop-q.invariant.clauses;
      next = omega (arith, size, sum, before);
      arcs = All-rest (λ (q : Question). length q.arcs ≤ 65536) c.in-Some.q.now c.in-Some.others.now c.loop-q.rest.now is c.loop-q.invariant.arcs;
    }

pub returns-clause-clauses : goal.returns-clause-clauses
returns-clause-clauses c =
    questions-end c.args.nodes c.args.links c.loop-q.next c.args.out.now c.loop-q.out (questions_parts c.args.nodes c.args.links c.args.first
    c.args.questions.now) c.loop-q.rest.now c.in_default.ensures.cases c.loop-q.invariant.clauses
