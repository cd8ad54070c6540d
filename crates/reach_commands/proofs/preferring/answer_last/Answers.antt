use Rattle.std.proofs.Common.{◌∙◌}
use Rattle.reach_commands.proofs.preferring.answer_last.Goals as goal

pub returns-clause-answer : goal.returns-clause-answer
returns-clause-answer c = record {
  answer = c.in_ok-answer.answer;
  right = c.in_ok-answer.ensures.right;
  first = c.in_ok-answer.ensures.first;
  text = c.of-2.ensures ∙ c.in_ok-text.ensures;
  writes = c.make.ensures;
  status = c.status_of.ensures.value;
}

pub returns-clause-judging : goal.returns-clause-judging
returns-clause-judging c = record { status = c.status_of.ensures.small; writes = c.make.ensures }
