use Rattle.std.proofs.Common.{◌≡◌, ℕ, ◌<◌, ◌≤◌, get_or}
use Rattle.sat_search.specs.Orders.{scaled}
use Rattle.sat_search.proofs.order.scale.Given as goal

abbrev pub invariant-loop-activity : goal.invariant-loop-activity
invariant-loop-activity l = record {
  done : (k : ℕ) → k < l.activity-index → get_or l.activities k 0 ≡ scaled (get_or l.initial.activities k 0);
  left : (k : ℕ) → l.activity-index ≤ k → get_or l.activities k 0 ≡ get_or l.initial.activities k 0;
}
