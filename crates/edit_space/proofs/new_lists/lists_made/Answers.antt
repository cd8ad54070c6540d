use Rattle.std.proofs.Common.{◌∙◌, ap, arith, length, ◌++◌}
use Rattle.edit_list.specs.NewLists.{new_route_list, new_packet_list}
use Rattle.edit_list.proofs.Counts.{few_new_lists}
use Rattle.edit_space.proofs.new_lists.lists_made.Goals as goal

pub returns-clause-few : goal.returns-clause-few
returns-clause-few c =
    few_new_lists (new_route_list c.args.net.now c.args.changes.now.edits.items) (new_packet_list c.args.changes.now.edits.items) c.append.new.list.items
    c.in_ok-lists.lists.items c.in_ok-packets.packets.items
    c.slice.result.now c.slice-2.result.now (omega (arith, ap length c.slice.ensures.items, c.slice.ensures.limit))
    (omega (arith, ap length c.slice-2.ensures.items, c.slice-2.ensures.limit)) c.in_ok-lists.ensures c.in_ok-packets.ensures
    (c.in_ok-append.ensures ∙ ap (λ l. c.in_ok-lists.lists.items ++ l) c.deref.ensures.value)
