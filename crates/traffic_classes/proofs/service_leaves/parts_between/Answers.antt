use Rattle.std.proofs.Common.{◌<◌, ◌^◌, arith, refl}
use Rattle.traffic_classes.proofs.ServiceTiles.{rise_ends}
use Rattle.traffic_classes.proofs.ServiceWalk.{next_cut, last_part, part_more, all_parts}
use Rattle.traffic_classes.proofs.service_leaves.parts_between.Goals as goal

pub overflow_sub-cut : goal.overflow_sub-cut
overflow_sub-cut c =
    let next = next_cut c.loop-cut.low c.args.whole.now.high c.loop-cut.cut-index c.args.cuts.now c.loop-cut-test.true c.loop-cut.invariant.rise in
    omega (arith, next.0)

pub invariant_of-push : goal.invariant_of-push
invariant_of-push c =
    let next = next_cut c.loop-cut.low c.args.whole.now.high c.loop-cut.cut-index c.args.cuts.now c.loop-cut-test.true c.loop-cut.invariant.rise in
    let few : c.args.whole.now.high < 2 ^ 24 = c.args.whole.now.in_range in
    let up = rise_ends _ _ c.args.whole.now.high next.1 in
    record { ordered = omega (arith, next.0); in_range = omega (arith, up, few) }

pub loop-cut-preserved : goal.loop-cut-preserved
loop-cut-preserved c =
    let next = next_cut c.loop-cut.low c.args.whole.now.high c.loop-cut.cut-index c.args.cuts.now c.loop-cut-test.true c.loop-cut.invariant.rise in
    record {
      rise = next.1;
      with_rest = part_more c.args.whole.now.low c.args.whole.now.high c.loop-cut.low c.loop-cut.cut-index c.args.cuts.now c.loop-cut.parts.items c.push.new.self.items
          _ refl c.in_ok-push.ensures.items c.loop-cut.invariant.with_rest c.loop-cut-test.true (omega (arith, next.0));
    }

pub invariant_of-push-2 : goal.invariant_of-push-2
invariant_of-push-2 c = record {
  ordered = last_part c.loop-cut.low c.args.whole.now.high c.loop-cut.cut-index c.args.cuts.now c.loop-cut-test.false c.loop-cut.invariant.rise;
  in_range = c.args.whole.now.in_range;
}

pub returns : goal.returns
returns c =
    all_parts c.args.whole.now.low c.args.whole.now.high c.loop-cut.low c.loop-cut.cut-index c.args.cuts.now c.loop-cut.parts.items c.push-2.new.self.items
    _ refl c.in_ok-push-2.ensures.items c.loop-cut.invariant.with_rest c.loop-cut-test.false refl
