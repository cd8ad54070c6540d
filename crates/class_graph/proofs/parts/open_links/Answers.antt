use Rattle.class_graph.specs.Parts.{IsOpenAt}
use Rattle.net_model.proofs.Grown.{holds_of_more, one_longer}
use Rattle.class_graph.proofs.parts.open_links.Goals as goal

pub loop-place-preserved : goal.loop-place-preserved
loop-place-preserved c = (
  one_longer c.loop-place.table c.push.new.self c.open_at.result c.loop-place.place c.in_ok-push.ensures.ok c.loop-place.invariant.0,
  holds_of_more (IsOpenAt c.args.net.now c.args.mode c.args.answers.now) c.loop-place.table c.push.new.self c.open_at.result
      c.loop-place.place c.in_ok-push.ensures.ok c.loop-place.invariant.0 c.loop-place.invariant.1 c.open_at.ensures,
)
