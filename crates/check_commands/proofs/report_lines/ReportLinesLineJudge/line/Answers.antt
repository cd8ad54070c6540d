use Rattle.check_commands.proofs.report_lines.ReportLinesLineJudge.line.Goals as goal

pub returns-in-Ok-Continue-clause-judged : goal.returns-in-Ok-Continue-clause-judged
returns-in-Ok-Continue-clause-judged c rest = record {
  outcomes = λ o leads text come. leads text (rw c.in-Ok-Continue.field-0-is at (c.in-Ok-Continue.ensures.judged text rest come));
  refusals = λ r refuses. refuses;
}

pub returns-in-Ok-Break-clause-judged : goal.returns-in-Ok-Break-clause-judged
returns-in-Ok-Break-clause-judged c rest text come = rw c.in-Ok-Break.field-0-is at (c.in-Ok-Break.ensures.judged text rest come)
