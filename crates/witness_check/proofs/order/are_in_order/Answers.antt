use Rattle.std.proofs.Common.{arith}
use Rattle.witness_check.proofs.InOrder.{next_more, all_apart}
use Rattle.witness_check.proofs.order.are_in_order.Goals as goal

pub loop-place-preserved : goal.loop-place-preserved
loop-place-preserved c =
    next_more c.args.sides.now c.loop-place.place c.index-sides-place.result c.index-sides-place-in-loop-place.result (omega arith) (omega arith)
    (c.comes_before.ensures c.if-not-comes_before.false) c.loop-place.invariant

pub returns : goal.returns
returns c t = all_apart c.args.sides.now c.loop-place.place c.loop-place.invariant (omega arith)
