use Rattle.std.proofs.Common.{rules, ◌≡◌, None, false, replicate}
use Rattle.std.specs.BinaryHeap.{heap_items}
use Rattle.route_trace.proofs.Queue.{start_here}
use Rattle.route_trace.proofs.front.Front.start.Goals as goal

pub returns-clause-queue : goal.returns-clause-queue
returns-clause-queue c =
    let of_distances : c.in_ok-distances.distances.items ≡ replicate c.args.routers None = search rules in
    let of_settled : c.in_ok-settled.settled.items ≡ replicate c.args.routers false = search rules in
    start_here c.args.routers c.args.owner.0 c.in_ok-distances.distances.items c.in_ok-settled.settled.items (heap_items c.in_ok-queue.queue) (heap_items c.push.new.self)
    c.requires of_distances of_settled c.in_ok-queue.ensures.items c.in_ok-queue.ensures.heap_order c.in_ok-push.ensures.permutation
    (c.in_ok-push.ensures.heap_order c.in_ok-queue.ensures.heap_order)
