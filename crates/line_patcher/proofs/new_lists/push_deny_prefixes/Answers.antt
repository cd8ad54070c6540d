use Rattle.line_patcher.specs.NewListLines.{deny_prefix}
use Rattle.line_patcher.proofs.Growing.{counted_grown}
use Rattle.line_patcher.proofs.new_lists.push_deny_prefixes.Goals as goal

pub loop-place-preserved : goal.loop-place-preserved
loop-place-preserved c =
    counted_grown (deny_prefix c.args.name.now) c.args.prefixes.now c.loop-place.place c.index-prefixes-place.result c.args.commands.now.items c.loop-place.commands.items
    c.push.new.self.items c.in_ok-deny_prefix.field-0 c.loop-place-test.true
    c.index-prefixes-place.is c.in_ok-deny_prefix.ensures c.loop-place.invariant c.in_ok-push.ensures.items
