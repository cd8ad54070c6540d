use Rattle.std.proofs.Common.{◌≡◌, ◌++◌, take, map}
use Rattle.std.specs.List.{enumerate_from}
use Rattle.line_patcher.specs.NewListLines.{deny_prefix}
use Rattle.line_patcher.proofs.new_lists.push_deny_prefixes.Given as goal

abbrev pub invariant-loop-place : goal.invariant-loop-place
invariant-loop-place l = l.commands.items ≡ l.fn.commands.items ++ map (deny_prefix l.name) (enumerate_from 1 (take l.place l.prefixes))
