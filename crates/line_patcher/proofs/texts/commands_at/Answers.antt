use Rattle.line_patcher.proofs.Tables.{grouped_next}
use Rattle.line_patcher.proofs.texts.commands_at.Goals as goal

pub loop-number-preserved : goal.loop-number-preserved
loop-number-preserved c =
    grouped_next c.args.count c.loop-number.yielded c.in-Some.number c.in-Some.command c.loop-number.groups.items c.add.new.groups.items c.loop-number.invariant c.in_ok-add.ensures
