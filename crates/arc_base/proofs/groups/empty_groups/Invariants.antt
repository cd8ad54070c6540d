use Rattle.std.proofs.Common.{◌≡◌, ℕ, List, [], map}
use Rattle.std.specs.List.{range_with_len}
use Rattle.arc_base.proofs.groups.empty_groups.Given as goal

abbrev pub invariant-loop : goal.invariant-loop
invariant-loop g l = let none : ℕ → List g.row.T.Denot = λ k. [] in l.groups.items ≡ map none (range_with_len 0 l.counter)
