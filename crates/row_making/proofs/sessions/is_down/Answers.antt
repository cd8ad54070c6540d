use Rattle.std.proofs.Common.{◌∙◌}
use Rattle.net_rules.specs.Neighbors.{says_down}
use Rattle.net_rules.proofs.Lasts.{last_more}
use Rattle.row_making.proofs.sessions.is_down.Goals as goal

pub loop-line-preserved : goal.loop-line-preserved
loop-line-preserved c =
    c.or-last.ensures ∙
    last_more (says_down c.args.peer) c.args.lines.now c.loop-line.line-index c.line-item.result c.loop-line.last c.says_down.result c.loop-line-test.true c.line-item.is
    c.loop-line.invariant c.says_down.ensures
