use Rattle.std.proofs.Common.{◌≡◌}
use Rattle.line_patcher.specs.Additions.{all_at}
use Rattle.line_patcher.proofs.additions.all_at.Given as goal

abbrev pub invariant-loop-command : goal.invariant-loop-command
invariant-loop-command l = l.all.items ≡ all_at l.number l.yielded
