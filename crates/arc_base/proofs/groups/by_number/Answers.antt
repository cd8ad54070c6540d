use Rattle.std.proofs.Common.{List, ◌++◌, ap, ◌∙◌}
use Rattle.arc_base.proofs.Items.{pieces_more}
use Rattle.arc_base.proofs.Grouped.{joined_groups}
use Rattle.arc_base.proofs.groups.by_number.Goals as goal

pub loop-group-preserved : goal.loop-group-preserved
loop-group-preserved g c =
    let whole : List g.row.T.Denot → List g.row.T.Denot = λ group. group in
    pieces_more whole c.loop-group.list.items c.append.new.list.items c.deref-group-items.result.now c.loop-group.group-index c.group-item.result c.loop-group-test.true c.group-item.is
    c.loop-group.invariant
    (◌∙◌ {A = List g.row.T.Denot} {b = c.loop-group.list.items ++ c.slice.result.now} c.in_ok-append.ensures (ap (λ l. c.loop-group.list.items ++ l) c.slice.ensures))

pub returns : goal.returns
returns g c =
    joined_groups {X = g.row.T.Denot} c.args.count c.loop-group.group-index c.args.things.now c.deref-group-items.result.now c.loop-group.list.items
    (c.deref-group-items.ensures.value ∙ c.in_ok-groups.ensures)
    c.loop-group-test.false c.loop-group.invariant
