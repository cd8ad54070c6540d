use Rattle.std.proofs.Common.{◌≡◌, ◌≤◌, ℕ, length, take, count_by}
use Rattle.std.specs.List.{sum_by}
use Rattle.sat_search.specs.Costs.{costing, counts, may_be_named, Rise}
use Rattle.sat_search.proofs.lemmas.Lemmas.costs.Given as goal

abbrev pub invariant-loop-place : goal.invariant-loop-place
invariant-loop-place l = record {
  counts : Rise l.self.ids.items → (least : ℕ) → sum_by (counts least) l.costs.items ≡ costing l.self l.used least l.core l.place;
  few : length l.costs.items ≤ count_by (may_be_named (take (length l.used) l.self.ids.items)) (take l.place l.core.clauses);
}
