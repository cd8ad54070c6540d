use Rattle.repair_check.proofs.Feeding.{line_came, settled}
use Rattle.repair_check.proofs.judge.RepairJudge.line.Goals as goal

pub returns-in-Line-clause-judged : goal.returns-in-Line-clause-judged
returns-in-Line-clause-judged c text rest come =
    line_came c.args.net.now c.args.doc.now c.args.list.now text c.args.self c.args.line.now rest c.in_ok-told.told c.in_ok-told.ensures.told come
    c.in_ok-phase.field-0 c.in-Line.phase c.in-Line.is c.in_ok-phase.ensures.leads c.read_line.new.reader c.in_ok-told.ensures.reader

pub returns-in-Done-clause-judged : goal.returns-in-Done-clause-judged
returns-in-Done-clause-judged c text rest come =
    settled c.args.net.now c.args.doc.now c.args.list.now text c.args.self c.args.line.now rest c.in_ok-told.told c.in_ok-told.ensures.told come
    c.in_ok-phase.field-0 c.in-Done.outcome c.in-Done.is c.in_ok-phase.ensures.leads
