use Rattle.std.proofs.Common.{◌∙◌}
use Rattle.traffic_classes.proofs.Growing.{adds_whole, adds_halves, split_of, some_from, none_of}
use Rattle.traffic_classes.proofs.Splits.{split_short}
use Rattle.traffic_classes.proofs.halving.+add_leaves.Goals as goal

pub returns-then-is_empty : goal.returns-then-is_empty
returns-then-is_empty t c =
    adds_whole c.args.marks.now c.args.whole c.as_slice-inner.result.now c.args.leaves.now.items c.push.new.self.items
    (c.as_slice-inner.ensures.value ∙ c.in_ok-marks_in_whole.ensures)
    (none_of c.as_slice-inner.result.now c.is_empty.result c.if-is_empty.true c.is_empty.ensures)
    c.in_ok-push.ensures.items

pub lower_half-requires : goal.lower_half-requires
lower_half-requires t c =
    split_short c.as_slice-inner.result.now c.args.whole (split_of c.args.marks.now c.args.whole c.as_slice-inner.result.now
    (c.as_slice-inner.ensures.value ∙ c.in_ok-marks_in_whole.ensures)
    (some_from c.as_slice-inner.result.now c.is_empty.result c.if-is_empty.false c.is_empty.ensures))

pub returns : goal.returns
returns t c =
    adds_halves c.args.marks.now c.args.whole c.lower_half.result c.upper_half.result c.as_slice-inner.result.now
    c.args.leaves.now.items c.add_leaves.new.leaves.items c.add_leaves-2.new.leaves.items
    (c.as_slice-inner.ensures.value ∙ c.in_ok-marks_in_whole.ensures)
    (some_from c.as_slice-inner.result.now c.is_empty.result c.if-is_empty.false c.is_empty.ensures)
    c.lower_half.ensures c.upper_half.ensures c.in_ok-add_leaves.ensures c.in_ok-add_leaves-2.ensures
