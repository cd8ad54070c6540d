use Rattle.std.proofs.Common.{◌≡◌, ◌++◌, take, ℕ, List}
use Rattle.std.specs.List.{filter_map}
use Rattle.edit_list.specs.declared.list_kinds.NewList.{NewList}
use Rattle.line_patcher.specs.NewListLines.{group_command}
use Rattle.line_patcher.proofs.new_lists.push_group_commands.Given as goal

abbrev pub invariant-loop-list : goal.invariant-loop-list
invariant-loop-list l = l.commands.items ≡ l.fn.commands.items ++ filter_map (λ (n : NewList × List ℕ). group_command l.faces n.0 n.1) (take l.list-index l.named)
