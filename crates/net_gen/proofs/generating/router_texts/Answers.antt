use Rattle.std.proofs.Common.{ℕ}
use Rattle.net_gen.specs.RouterFiles.{router_lines, text_of}
use Rattle.net_gen.proofs.Counted.{pushed_more, pushed_long}
use Rattle.net_gen.proofs.generating.router_texts.Goals as goal

pub loop-place-preserved : goal.loop-place-preserved
loop-place-preserved c = record {
  texts = pushed_more (λ (router : ℕ). text_of (router_lines c.args.routers router)) c.loop-place.place c.loop-place.texts c.push.new.self c.in_ok-router_text.field-0
      c.in_ok-push.ensures.ok c.loop-place.invariant.texts c.in_ok-router_text.ensures;
  long = pushed_long c.loop-place.texts c.push.new.self c.in_ok-router_text.field-0 c.loop-place.place c.in_ok-push.ensures.ok c.loop-place.invariant.long;
}
