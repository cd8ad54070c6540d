use Rattle.std.proofs.Common.{refl, ◌∙◌}
use Rattle.net_rules.specs.Settings.{says_passive}
use Rattle.row_making.specs.Indexes.{said_of}
use Rattle.net_rules.proofs.Lasts.{last_more}
use Rattle.row_making.proofs.process_index.passive.Goals as goal

pub loop-line-preserved : goal.loop-line-preserved
loop-line-preserved c = λ name.
    c.in_ok-add_passive.ensures name ∙
    last_more (says_passive name) c.args.lines.now c.loop-line.line-index c.line-item.result (said_of c.loop-line.passive name)
    (says_passive name c.line-item.result.value) c.loop-line-test.true c.line-item.is
    (c.loop-line.invariant name) refl
