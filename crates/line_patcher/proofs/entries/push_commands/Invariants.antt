use Rattle.std.proofs.Common.{◌≡◌, ◌++◌, take, map}
use Rattle.std.specs.List.{enumerate_from}
use Rattle.line_patcher.specs.EntryLines.{first_line}
use Rattle.line_patcher.proofs.entries.push_commands.Given as goal

abbrev pub invariant-loop-at : goal.invariant-loop-at
invariant-loop-at g l = l.commands.items ≡ l.fn.commands.items ++ map (λ e. (first_line l.place, g.L.EditedList.command l.place l.list e)) (enumerate_from 1 (take l.at l.subjects))
