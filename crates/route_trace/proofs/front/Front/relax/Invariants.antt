use Rattle.std.proofs.Common.{◌≡◌, ◌⊎◌, ℕ, Some, length, take}
use Rattle.std.specs.BinaryHeap.{heap_items}
use Rattle.route_trace.specs.Routes.{distance_map}
use Rattle.route_trace.specs.Steps.{IsGiven, IsLeastOf}
use Rattle.route_trace.specs.Queue.{IsQueue}
use Rattle.route_trace.proofs.front.Front.relax.Given as goal

abbrev pub invariant-loop-step : goal.invariant-loop-step
invariant-loop-step l =
    (length l.self.distances.items ≡ length l.initial.self.distances.items) ×
    (l.self.settled.items ≡ l.initial.self.settled.items) ×
    IsQueue l.self.distances.items l.self.settled.items (heap_items l.self.queue) ×
    ((u : ℕ) →
    IsLeastOf (λ n. (distance_map l.initial.self.distances.items u ≡ Some n) ⊎ IsGiven (take l.step-index l.steps) l.from u n)
    (distance_map l.self.distances.items u))
