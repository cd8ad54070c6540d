use Rattle.std.proofs.Common.{◌<◌, ◌≤◌, length, drop, All}
use Rattle.sat_search.specs.Orders.{IsOrder, IsReleased}
use Rattle.sat_search.proofs.order.Order.release.Given as goal

abbrev pub invariant-loop-place : goal.invariant-loop-place
invariant-loop-place l = record {
  order : IsOrder l.core.vars l.self;
  within : l.place ≤ length l.trail;
  above : All (λ e. l.level < e.level) (drop l.place l.trail);
  released : IsReleased (drop l.place l.trail) l.initial.self l.self;
}

abbrev pub decreases-loop-place : goal.decreases-loop-place
decreases-loop-place l = l.place
