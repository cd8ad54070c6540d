use Rattle.std.proofs.Common.{◌∙◌, subst}
use Rattle.std.proofs.lemmas.List.{take_all}
use Rattle.net_model.specs.declared.verdicts.ClassSide.{ClassSide}
use Rattle.verdicts.specs.Fixed.{IsLeastClosed, HasClosedSide}
use Rattle.verdicts.specs.Judged.{IsClassAnswer}
use Rattle.class_graph.proofs.Passing.{item_here, one_more_class, first_after}
use Rattle.verdicts.proofs.Pushes.{map_more, all_push}
use Rattle.verdicts.proofs.blocking.judge_blocking.Goals as goal

pub returns-in-Walk : goal.returns-in-Walk
returns-in-Walk c = λ ends is. (
  first_after (HasClosedSide c.args.net.now ends c.args.kind) c.slice-class-items.result.now c.args.classes.now c.slice-class-items.ensures.items c.loop-class.class-index c.class-item.result
      (item_here c.slice-class-items.result.now c.loop-class.class-index c.class-item.result c.loop-class-test.true c.class-item.is) (c.loop-class.invariant.before ends is),
  subst (IsClassAnswer c.args.net.now ends c.args.kind c.class-item.result) c.in-Walk.is (c.in_ok-answer.ensures ends is),
)

pub loop-class-preserved : goal.loop-class-preserved
loop-class-preserved c = record {
  in_order = map_more (λ (s : ClassSide). s.class) c.loop-class.sides c.push.new.self (record { class = c.class-item.result; side = c.in-Closed.side })
      c.slice-class-items.result.now c.loop-class.class-index c.class-item.result c.loop-class-test.true c.loop-class.invariant.in_order c.in_ok-push-in-Closed.ensures.ok c.class-item.is;
  least = λ ends is. all_push (λ (s : ClassSide). IsLeastClosed c.args.net.now ends c.args.kind s.class s.side) c.loop-class.sides c.push.new.self _
      c.in_ok-push-in-Closed.ensures.ok (c.loop-class.invariant.least ends is)
      (subst (IsClassAnswer c.args.net.now ends c.args.kind c.class-item.result) c.in-Closed.is (c.in_ok-answer.ensures ends is));
  before = λ ends is.
      (let least : IsLeastClosed c.args.net.now ends c.args.kind c.class-item.result c.in-Closed.side =
      subst (IsClassAnswer c.args.net.now ends c.args.kind c.class-item.result) c.in-Closed.is (c.in_ok-answer.ensures ends is) in
      one_more_class (HasClosedSide c.args.net.now ends c.args.kind) c.slice-class-items.result.now c.loop-class.class-index c.class-item.result
      (item_here c.slice-class-items.result.now c.loop-class.class-index c.class-item.result c.loop-class-test.true c.class-item.is)
      (c.loop-class.invariant.before ends is) (c.in-Closed.side, least.closed));
}

pub returns : goal.returns
returns c = λ ends is. record {
  in_order = c.loop-class.invariant.in_order ∙ take_all c.loop-class.class-index c.slice-class-items.result.now c.loop-class-test.false ∙ c.slice-class-items.ensures.items;
  least = c.loop-class.invariant.least ends is;
}
