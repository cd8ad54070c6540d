use Rattle.std.proofs.Common.{◌≡◌, ◌==◌, ℕ, map, take}
use Rattle.std.specs.List.{range_with_len, list_any}
use Rattle.arc_base.proofs.groups.marked.Given as goal

abbrev pub invariant-loop-number : goal.invariant-loop-number
invariant-loop-number l = l.flags.items ≡ map (λ (k : ℕ). list_any (λ (n : ℕ). n == k) (take l.number-index l.numbers)) (range_with_len 0 l.count)
