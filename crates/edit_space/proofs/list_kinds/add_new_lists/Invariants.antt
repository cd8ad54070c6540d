use Rattle.std.proofs.Common.{◌≡◌, ◌++◌, take}
use Rattle.std.specs.List.{filter_map}
use Rattle.edit_space.specs.Working.{new_key_by}
use Rattle.edit_space.proofs.list_kinds.add_new_lists.Given as goal

abbrev pub invariant-loop-new : goal.invariant-loop-new
invariant-loop-new g l = l.keyed.items ≡ l.fn.keyed.items ++ filter_map (new_key_by g.L.KeyedList.face) (take l.new-index l.named)
