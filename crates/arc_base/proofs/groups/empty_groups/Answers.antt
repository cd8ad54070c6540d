use Rattle.std.proofs.Common.{ℕ, List, []}
use Rattle.arc_base.proofs.Grouped.{empties_more, told_all}
use Rattle.arc_base.proofs.groups.empty_groups.Goals as goal

pub loop-init : goal.loop-init
loop-init g c = c.new-groups.ensures.items

pub loop-preserved : goal.loop-preserved
loop-preserved g c = empties_more c.loop.counter c.loop.groups.items c.push.new.self.items _ c.new-items.ensures.items c.loop.invariant c.in_ok-push.ensures.items

pub returns : goal.returns
returns g c =
    let none : ℕ → List g.row.T.Denot = λ k. [] in
    told_all none c.loop.groups.items c.loop.counter c.args.count c.loop.auto.counter-end c.loop-test.false c.loop.invariant
