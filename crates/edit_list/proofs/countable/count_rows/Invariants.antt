use Rattle.std.proofs.Common.{ℕ, ◌<◌, ◌^◌, length}
use Rattle.edit_list.specs.NewLists.{names_of}
use Rattle.edit_list.proofs.countable.count_rows.Given as goal

abbrev pub invariant-loop-router : goal.invariant-loop-router
invariant-loop-router l = (r : ℕ) → r < l.router-index → length (names_of l.net r) < 2 ^ 32
