use Rattle.std.proofs.Common.{◌≡◌, ◌<◌, ◌^◌, ℕ, length, map, [], get_or}
use Rattle.std.specs.List.{range_with_len}
use Rattle.edit_list.specs.NewLists.{free_names, names_of}
use Rattle.arc_base.specs.Numbered.{of_number}
use Rattle.edit_space.proofs.new_lists.new_names.Given as goal

abbrev pub invariant-loop-place : goal.invariant-loop-place
invariant-loop-place l = record {
  names : l.names.items ≡ map (λ (r : ℕ). free_names (names_of l.net r) (length (of_number r l.lists))) (range_with_len 0 l.place);
  counted : (r : ℕ) → r < l.place → length (get_or l.names.items r []) ≡ length (of_number r l.lists);
  few : (r : ℕ) → r < l.place → length (names_of l.net r) < 2 ^ 32;
}
