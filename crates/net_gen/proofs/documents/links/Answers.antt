use Rattle.net_gen.specs.Generated.{link_text}
use Rattle.net_gen.proofs.Counted.{pushed_more, pushed_long}
use Rattle.net_gen.proofs.documents.links.Goals as goal

pub loop-place-preserved : goal.loop-place-preserved
loop-place-preserved c = record {
  links = pushed_more (link_text c.args.routers) c.loop-place.place c.loop-place.links c.push.new.self c.in_ok-link_text.field-0 c.in_ok-push.ensures.ok c.loop-place.invariant.links
      c.in_ok-link_text.ensures;
  long = pushed_long c.loop-place.links c.push.new.self c.in_ok-link_text.field-0 c.loop-place.place c.in_ok-push.ensures.ok c.loop-place.invariant.long;
}
