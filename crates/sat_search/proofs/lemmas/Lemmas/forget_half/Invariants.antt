use Rattle.std.proofs.Common.{◌≡◌, ◌≢◌, ◌+◌, ◌≤◌, length, take, All, AllPairs, Contains}
use Rattle.sat_search.specs.Dropping.{Forgets}
use Rattle.sat_search.specs.Costs.{costing, Rise}
use Rattle.sat_search.proofs.lemmas.Lemmas.forget_half.Given as goal

abbrev pub invariant-loop-place : goal.invariant-loop-place
invariant-loop-place l = record {
  different : AllPairs (λ c d. c.id ≢ d.id) l.core.clauses;
  forgets : Forgets l.fn.core l.ids l.core;
  old : All (Contains (take (length l.used) l.self.ids.items)) l.ids;
  place : l.place ≤ length l.core.clauses;
  fewer : length l.core.clauses + length l.ids ≡ length l.fn.core.clauses;
  most : length l.ids ≤ l.half;
  half : Rise l.self.ids.items → l.half ≤ length l.ids + costing l.self l.used l.least l.core l.place;
}

abbrev pub decreases-loop-place : goal.decreases-loop-place
decreases-loop-place l = l.place
