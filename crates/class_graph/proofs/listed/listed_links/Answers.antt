use Rattle.std.proofs.Common.{IsFalse}
use Rattle.class_graph.specs.Listed.{IsUnlisted}
use Rattle.net_model.proofs.Grown.{holds_of_more, one_longer}
use Rattle.class_graph.proofs.listed.listed_links.Goals as goal

pub loop-place-preserved : goal.loop-place-preserved
loop-place-preserved c = (
  one_longer c.loop-place.table c.push.new.self c.is_listed.result c.loop-place.place c.in_ok-push.ensures.ok c.loop-place.invariant.0,
  holds_of_more (λ link flag. IsFalse flag → IsUnlisted c.args.net.now link) c.loop-place.table c.push.new.self c.is_listed.result
      c.loop-place.place c.in_ok-push.ensures.ok c.loop-place.invariant.0 c.loop-place.invariant.1 c.is_listed.ensures,
)
