use Rattle.std.proofs.Common.{◌≡◌}
use Rattle.std.specs.BinaryHeap.{heap_items, heap_len}
use Rattle.route_trace.specs.Queue.{IsQueue}
use Rattle.route_trace.proofs.front.Front.settle_nearest.Given as goal

abbrev pub invariant-entry : goal.invariant-entry
invariant-entry l =
    (l.self.distances.items ≡ l.initial.self.distances.items) ×
    (l.self.settled.items ≡ l.initial.self.settled.items) ×
    IsQueue l.initial.self.distances.items l.initial.self.settled.items (heap_items l.self.queue)

abbrev pub decreases-entry : goal.decreases-entry
decreases-entry l = heap_len l.self.queue
