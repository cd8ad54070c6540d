use Rattle.std.proofs.Common.{◌∙◌, ℕ, List, ap}
use Rattle.edit_list.specs.declared.list_kinds.NewList.{NewList}
use Rattle.line_patcher.specs.NewListLines.{group_command}
use Rattle.line_patcher.proofs.Growing.{picked_grown}
use Rattle.line_patcher.proofs.new_lists.push_group_commands.Goals as goal

pub loop-list-preserved : goal.loop-list-preserved
loop-list-preserved c =
    let one : NewList × List ℕ = c.loop-list-item.result in
    picked_grown (λ (n : NewList × List ℕ). group_command c.args.faces.now n.0 n.1) c.args.named.now c.loop-list.list-index one c.args.commands.now.items c.loop-list.commands.items
    c.push_some.new.things.items
    c.in_ok-group_command.field-0 c.loop-list-test.true c.loop-list-item.is (c.in_ok-group_command.ensures ∙ ap (λ (name : List ℕ). group_command c.args.faces.now one.0 name) c.bytes.ensures)
    c.loop-list.invariant c.in_ok-push_some.ensures
