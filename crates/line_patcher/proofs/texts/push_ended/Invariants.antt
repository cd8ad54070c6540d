use Rattle.std.proofs.Common.{◌≡◌, ◌++◌, take, map}
use Rattle.line_patcher.specs.Patches.{ended}
use Rattle.line_patcher.specs.Written.{line_of}
use Rattle.line_patcher.proofs.texts.push_ended.Given as goal

abbrev pub invariant-loop-command : goal.invariant-loop-command
invariant-loop-command l = l.text.items ≡ l.fn.text.items ++ ended l.end (map line_of (take l.command-index l.commands))
