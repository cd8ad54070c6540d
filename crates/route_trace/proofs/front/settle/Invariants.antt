use Rattle.std.specs.BinaryHeap.{heap_items}
use Rattle.route_trace.specs.Queue.{IsQueue}
use Rattle.route_trace.proofs.UnderWay.{IsUnderWay, unsettled}
use Rattle.route_trace.proofs.front.settle.Given as goal

abbrev pub invariant-nearest : goal.invariant-nearest
invariant-nearest l =
    IsUnderWay l.steps l.routers l.fn.owner.0 l.front.distances.items l.front.settled.items ×
    IsQueue l.front.distances.items l.front.settled.items (heap_items l.front.queue)

abbrev pub decreases-nearest : goal.decreases-nearest
decreases-nearest l = unsettled l.front.settled.items
