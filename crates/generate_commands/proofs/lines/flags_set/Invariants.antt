use Rattle.std.proofs.Common.{◌≡◌, take}
use Rattle.generate_commands.specs.Summaries.{flags_set}
use Rattle.generate_commands.proofs.lines.flags_set.Given as goal

abbrev pub invariant-loop-flag : goal.invariant-loop-flag
invariant-loop-flag l = l.count ≡ flags_set (take l.flag-index l.flags)
