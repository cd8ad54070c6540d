use Rattle.repair_check.proofs.Counted.{none_begun}
use Rattle.repair_check.proofs.beginning.begin_none.Goals as goal

pub returns-clause-leads : goal.returns-clause-leads
returns-clause-leads c = none_begun c.args.net.now c.args.doc.now c.args.list.now c.args.bound c.args.number c.in_ok-checker.checker c.in_ok-checker.ensures.ready c.in_ok-checker.ensures.limits
