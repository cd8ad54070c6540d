use Rattle.std.proofs.Common.{◌≡◌, ◌≤◌, List, ℕ, not, take, filter, length}
use Rattle.edit_list.specs.NewLists.{is_name_among}
use Rattle.edit_space.proofs.names.first_free.Given as goal

abbrev pub invariant-loop-name : goal.invariant-loop-name
invariant-loop-name l = record {
  free : l.free.items ≡ filter (λ (name : List ℕ). not (is_name_among l.names name)) (take l.name-index l.candidates);
  few : length l.free.items ≤ l.count;
}
