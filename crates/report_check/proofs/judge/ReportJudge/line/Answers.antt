use Rattle.report_check.proofs.Feeding.{end_came, line_came, settled}
use Rattle.report_check.proofs.judge.ReportJudge.line.Goals as goal

pub returns-in-Line-clause-judged : goal.returns-in-Line-clause-judged
returns-in-Line-clause-judged c text rest come =
    line_came c.args.net.now c.args.doc.now text c.args.self c.args.line.now rest come c.judge_line.new.reader c.in_ok-first.field-0
    c.in_ok-first.ensures.reader c.in_ok-first.ensures.next c.in-Line.first c.in-Line.is

pub returns-in-End-clause-judged : goal.returns-in-End-clause-judged
returns-in-End-clause-judged c text rest come =
    end_came c.args.net.now c.args.doc.now text c.args.self c.args.line.now rest come c.judge_line.new.reader c.in_ok-first.field-0 c.in_ok-first.ensures.reader c.in_ok-first.ensures.next c.in-End.is

pub returns-in-Done-clause-judged : goal.returns-in-Done-clause-judged
returns-in-Done-clause-judged c text rest come =
    settled c.args.net.now c.args.doc.now text c.args.self c.args.line.now rest come c.judge_line.new.reader c.in_ok-first.field-0 c.in_ok-first.ensures.reader
    c.in_ok-first.ensures.next c.in-Done.outcome c.in-Done.is
