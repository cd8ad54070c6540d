use Rattle.std.proofs.Common.{ℕ}
use Rattle.ios_words.specs.declared.commands.Command.{Command}
use Rattle.line_patcher.specs.EntryLines.{first_line}
use Rattle.line_patcher.proofs.Growing.{counted_grown, all_mapped_twice}
use Rattle.line_patcher.proofs.entries.push_commands.Goals as goal

pub loop-at-preserved : goal.loop-at-preserved
loop-at-preserved g c =
    counted_grown (λ e. (first_line c.args.place.now, g.L.EditedList.command c.args.place.now c.args.list.now e)) c.args.subjects.now c.loop-at.at c.index-subjects-at.result
    c.args.commands.now.items c.loop-at.commands.items c.push.new.self.items (c.first_line-first.result, c.in_ok-command.command) c.loop-at-test.true c.index-subjects-at.is
    (λ j. (c.first_line-first.ensures j, c.in_ok-command.ensures j)) c.loop-at.invariant c.in_ok-push.ensures.items

pub returns : goal.returns
returns g c =
    let front : Command → ℕ × Command = λ command. (first_line c.args.place.now, command) in
    all_mapped_twice front (g.L.EditedList.command c.args.place.now c.args.list.now) c.args.subjects.now c.loop-at.at c.args.commands.now.items c.loop-at.commands.items
    c.loop-at-test.false c.loop-at.invariant
