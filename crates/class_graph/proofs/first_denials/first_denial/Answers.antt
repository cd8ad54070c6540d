use Rattle.std.proofs.Common.{sym, subst, arith}
use Rattle.class_graph.specs.FirstDenials.{IsFirstDenial}
use Rattle.class_graph.proofs.Passing.{item_here}
use Rattle.class_graph.proofs.FirstDenials.{first_denial_more, denial_at_end}
use Rattle.class_graph.proofs.first_denials.first_denial.Goals as goal

pub loop-class-preserved : goal.loop-class-preserved
loop-class-preserved c =
    subst (IsFirstDenial c.args.net.now c.args.pair.now.to c.slice-class-items.result.now _) (sym c.lower-best.ensures)
    (first_denial_more c.args.net.now c.args.pair.now.to c.slice-class-items.result.now c.loop-class.class-index c.class-item.result
    (item_here c.slice-class-items.result.now c.loop-class.class-index c.class-item.result c.loop-class-test.true c.class-item.is)
    c.loop-class.best c.loop-class.invariant c.in_ok-found.found c.in_ok-found.ensures)

pub returns : goal.returns
returns c =
    denial_at_end c.args.net.now c.args.pair.now.to c.slice-class-items.result.now c.args.classes.now c.slice-class-items.ensures.items c.loop-class.class-index
    (omega arith) c.loop-class.best c.loop-class.invariant
