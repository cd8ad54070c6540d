use Rattle.std.specs.BinaryHeap.{heap_items}
use Rattle.route_trace.proofs.Queue.{offered_here}
use Rattle.route_trace.proofs.front.Front.offer.Goals as goal

pub returns-in_ok-push-clause-queue : goal.returns-in_ok-push-clause-queue
returns-in_ok-push-clause-queue c =
    offered_here c.args.self.now.distances.items c.args.self.now.settled.items (heap_items c.args.self.now.queue) (heap_items c.push.new.self) c.args.router.0 c.args.distance
    c.index.result.now c.is_nearer.result c.requires.within c.requires.queue c.in_ok-push.ensures.permutation (c.in_ok-push.ensures.heap_order c.requires.queue.ordered)
    c.index.ensures c.is_nearer.ensures c.if-is_nearer.true
