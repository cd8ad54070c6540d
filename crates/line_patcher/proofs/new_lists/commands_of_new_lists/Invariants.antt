use Rattle.std.proofs.Common.{◌≡◌, take, ℕ, List}
use Rattle.std.specs.List.{flat_map}
use Rattle.edit_list.specs.declared.list_kinds.NewList.{NewList}
use Rattle.line_patcher.specs.NewListLines.{new_list_commands}
use Rattle.line_patcher.proofs.new_lists.commands_of_new_lists.Given as goal

abbrev pub invariant-loop-list : goal.invariant-loop-list
invariant-loop-list l = l.commands.items ≡ flat_map (λ (n : NewList × List ℕ). new_list_commands l.changes.edits.items n.0 n.1) (take l.list-index l.named)
