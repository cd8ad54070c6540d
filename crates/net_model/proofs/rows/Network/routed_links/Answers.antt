use Rattle.net_model.specs.Tables.{TellsRouted}
use Rattle.net_model.proofs.Grown.{holds_of_more, one_longer}
use Rattle.net_model.proofs.rows.Network.routed_links.Goals as goal

pub loop-place-preserved : goal.loop-place-preserved
loop-place-preserved c = (
  one_longer c.loop-place.table c.push.new.self c.routed_both_ways.result c.loop-place.place c.in_ok-push.ensures.ok c.loop-place.invariant.0,
  holds_of_more (λ k flags. TellsRouted c.args.self.now k c.args.to flags) c.loop-place.table c.push.new.self c.routed_both_ways.result
      c.loop-place.place c.in_ok-push.ensures.ok c.loop-place.invariant.0 c.loop-place.invariant.1 c.routed_both_ways.ensures,
)
