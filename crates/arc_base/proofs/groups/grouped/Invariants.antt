use Rattle.std.proofs.Common.{◌≡◌, ℕ, List, map, take}
use Rattle.std.specs.List.{range_with_len}
use Rattle.arc_base.specs.Numbered.{of_number}
use Rattle.arc_base.proofs.groups.grouped.Given as goal

abbrev pub invariant-loop-number : goal.invariant-loop-number
invariant-loop-number g l =
    let group : ℕ → List g.row.T.Denot = λ k. of_number k (take l.number-index l.things) in
    l.groups.items ≡ map group (range_with_len 0 l.count)
