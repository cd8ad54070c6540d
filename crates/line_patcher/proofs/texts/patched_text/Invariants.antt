use Rattle.std.proofs.Common.{◌≡◌, take}
use Rattle.std.specs.List.{flat_map, enumerate_from}
use Rattle.line_patcher.specs.Patches.{patched_row, line_end}
use Rattle.line_patcher.specs.Written.{lines_at}
use Rattle.line_patcher.proofs.texts.patched_text.Given as goal

abbrev pub invariant-loop-place : goal.invariant-loop-place
invariant-loop-place l =
    l.new.items ≡ flat_map (patched_row l.text (line_end l.text l.lines.rows) (lines_at l.fn.before.items) l.fn.numbers.items (lines_at l.fn.after.items)) (enumerate_from 1 (take l.place l.rows))
