use Rattle.std.proofs.Common.{◌∙◌}
use Rattle.net_rules.specs.Settings.{says_reference}
use Rattle.net_rules.proofs.Lasts.{last_more}
use Rattle.row_making.proofs.process_index.reference.Goals as goal

pub loop-line-preserved : goal.loop-line-preserved
loop-line-preserved c =
    c.or-last.ensures ∙
    last_more says_reference c.args.lines.now c.loop-line.line-index c.line-item.result c.loop-line.last c.says_reference.result c.loop-line-test.true c.line-item.is
    c.loop-line.invariant c.says_reference.ensures
