use Rattle.std.proofs.Common.{◌≡◌, ◌-◌, map}
use Rattle.std.specs.List.{range_with_len}
use Rattle.edit_list.specs.NewLists.{new_name}
use Rattle.edit_space.proofs.names.first_names.Given as goal

abbrev pub invariant-loop-n : goal.invariant-loop-n
invariant-loop-n l = l.names.items ≡ map new_name (range_with_len 1 (l.n - 1))
