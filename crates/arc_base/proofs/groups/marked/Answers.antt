use Rattle.std.proofs.Common.{get_or}
use Rattle.std.proofs.lemmas.List.{get_or_default}
use Rattle.arc_base.proofs.Grouped.{marked_none, marked_more, marked_all}
use Rattle.arc_base.proofs.groups.marked.Goals as goal

pub loop-number-init : goal.loop-number-init
loop-number-init c = marked_none c.args.count c.in_ok-flags.flags.items (c.in_ok-flags.ensures.items_if_clones_equal (λ y h. h))

pub loop-number-preserved : goal.loop-number-preserved
loop-number-preserved c =
    marked_more c.args.count c.args.numbers.now c.loop-number.number-index (get_or c.args.numbers.now c.loop-number.number-index 0) c.loop-number.flags.items c.mark.new.flags.items
    c.loop-number-test.true (get_or_default c.args.numbers.now c.loop-number.number-index 0 _ c.loop-number-test.true) c.loop-number.invariant c.mark.ensures

pub returns : goal.returns
returns c = marked_all c.args.count c.loop-number.number-index c.args.numbers.now c.loop-number.flags.items c.loop-number-test.false c.loop-number.invariant
