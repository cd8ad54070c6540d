use Rattle.std.proofs.Common.{◌≡◌, take}
use Rattle.std.specs.List.{filter_map}
use Rattle.edit_list.specs.NewLists.{new_packet_list}
use Rattle.arc_base.specs.Numbered.{placed}
use Rattle.edit_space.proofs.new_lists.new_packet_lists.Given as goal

abbrev pub invariant-loop-place : goal.invariant-loop-place
invariant-loop-place l = l.lists.items ≡ filter_map (new_packet_list l.changes.edits.items) (take l.place (placed l.faces))
