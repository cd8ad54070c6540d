use Rattle.std.proofs.Common.{◌≡◌, ◌++◌, take, map}
use Rattle.line_patcher.specs.NewListLines.{deny_class}
use Rattle.line_patcher.proofs.new_lists.push_new_entries.Given as goal

abbrev pub invariant-loop-class : goal.invariant-loop-class
invariant-loop-class l = l.commands.items ≡ l.fn.commands.items ++ map deny_class (take l.class-index l.classes)
