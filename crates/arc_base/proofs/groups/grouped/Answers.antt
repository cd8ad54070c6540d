use Rattle.arc_base.proofs.Grouped.{grouped_more, grouped_all}
use Rattle.arc_base.proofs.groups.grouped.Goals as goal

pub loop-number-init : goal.loop-number-init
loop-number-init g c = c.in_ok-groups.ensures

pub loop-number-preserved : goal.loop-number-preserved
loop-number-preserved g c =
    grouped_more {X = g.row.T.Denot} c.args.count c.args.things.now c.loop-number.number-index c.loop-number-item.result.0 c.loop-number-item.result.1 c.loop-number.groups.items c.add.new.groups.items
    c.loop-number-test.true c.loop-number-item.is c.loop-number.invariant c.in_ok-add.ensures

pub returns : goal.returns
returns g c = grouped_all {X = g.row.T.Denot} c.args.count c.loop-number.number-index c.args.things.now c.loop-number.groups.items c.loop-number-test.false c.loop-number.invariant
