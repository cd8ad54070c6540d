use Rattle.std.proofs.Common.{◌≡◌, ◌++◌, take, map}
use Rattle.std.specs.List.{enumerate_from}
use Rattle.line_patcher.specs.EntryLines.{new_number}
use Rattle.line_patcher.proofs.entries.push_numbers.Given as goal

abbrev pub invariant-loop-at : goal.invariant-loop-at
invariant-loop-at l = l.numbers.items ≡ l.fn.numbers.items ++ map (new_number l.word l.step l.count) (enumerate_from 1 (take l.at l.line-items))
