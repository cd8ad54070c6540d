use Rattle.std.proofs.Common.{◌≡◌, ◌<◌, Bool, List, false, true, length, ◌∙◌, ap, arith}
use Rattle.std.specs.BinaryHeap.{heap_items}
use Rattle.route_trace.specs.Routes.{flagged}
use Rattle.route_trace.proofs.Queue.{entry_within, flag_here, nearest_first, settled_here, passed_over}
use Rattle.route_trace.proofs.front.Front.settle_nearest.Goals as goal

pub index-requires : goal.index-requires
index-requires c =
    let inside : c.in-Some.field-0.0.1 < length c.args.self.now.distances.items =
    entry_within c.args.self.now.distances.items c.args.self.now.settled.items (heap_items c.entry.self.queue) (heap_items c.pop.new.self) c.in-Some.field-0
    c.entry.invariant.2 c.in-Some.ensures.permutation (c.in-Some.ensures.heap_order c.entry.invariant.2.ordered).0 in
    omega (arith, inside, c.requires.whole, c.entry.self.settled.ok.0, ap (λ (xs : List Bool). length xs) c.entry.invariant.1)

pub index_mut-requires : goal.index_mut-requires
index_mut-requires c =
    let inside : c.in-Some.field-0.0.1 < length c.args.self.now.distances.items =
    entry_within c.args.self.now.distances.items c.args.self.now.settled.items (heap_items c.entry.self.queue) (heap_items c.pop.new.self) c.in-Some.field-0
    c.entry.invariant.2 c.in-Some.ensures.permutation (c.in-Some.ensures.heap_order c.entry.invariant.2.ordered).0 in
    omega (arith, inside, c.requires.whole, c.entry.self.settled.ok.0, ap (λ (xs : List Bool). length xs) c.entry.invariant.1)

pub returns-then-not-index-clause-nearest : goal.returns-then-not-index-clause-nearest
returns-then-not-index-clause-nearest c =
    let inside : c.in-Some.field-0.0.1 < length c.args.self.now.distances.items =
    entry_within c.args.self.now.distances.items c.args.self.now.settled.items (heap_items c.entry.self.queue) (heap_items c.pop.new.self) c.in-Some.field-0
    c.entry.invariant.2 c.in-Some.ensures.permutation (c.in-Some.ensures.heap_order c.entry.invariant.2.ordered).0 in
    let off : flagged c.args.self.now.settled.items c.in-Some.field-0.0.1 ≡ false =
    flag_here c.args.self.now.settled.items c.entry.self.settled.items c.in-Some.field-0.0.1 c.index.result.now c.entry.invariant.1 (omega (arith, inside, c.requires.whole)) c.index.ensures
    ∙ c.if-not-index.true in
    nearest_first c.args.self.now.distances.items c.args.self.now.settled.items (heap_items c.entry.self.queue) (heap_items c.pop.new.self) c.in-Some.field-0
    c.entry.invariant.2 c.in-Some.ensures.permutation (c.in-Some.ensures.heap_order c.entry.invariant.2.ordered).0 off (c.in-Some.ensures.heap_order c.entry.invariant.2.ordered).1

pub returns-then-not-index-clause-queue : goal.returns-then-not-index-clause-queue
returns-then-not-index-clause-queue c =
    settled_here c.args.self.now.distances.items c.entry.self.distances.items c.args.self.now.settled.items c.entry.self.settled.items (heap_items
    c.entry.self.queue) (heap_items c.pop.new.self) c.in-Some.field-0
    c.entry.invariant.0 c.entry.invariant.1 c.entry.invariant.2 c.in-Some.ensures.permutation (c.in-Some.ensures.heap_order c.entry.invariant.2.ordered).0 c.requires.whole

pub entry-preserved : goal.entry-preserved
entry-preserved c =
    let inside : c.in-Some.field-0.0.1 < length c.args.self.now.distances.items =
    entry_within c.args.self.now.distances.items c.args.self.now.settled.items (heap_items c.entry.self.queue) (heap_items c.pop.new.self) c.in-Some.field-0
    c.entry.invariant.2 c.in-Some.ensures.permutation (c.in-Some.ensures.heap_order c.entry.invariant.2.ordered).0 in
    let up : flagged c.args.self.now.settled.items c.in-Some.field-0.0.1 ≡ true =
    flag_here c.args.self.now.settled.items c.entry.self.settled.items c.in-Some.field-0.0.1 c.index.result.now c.entry.invariant.1 (omega (arith, inside, c.requires.whole)) c.index.ensures
    ∙ c.if-not-index.false in (
      c.entry.invariant.0,
      c.entry.invariant.1,
      passed_over c.args.self.now.distances.items c.args.self.now.settled.items (heap_items c.entry.self.queue) (heap_items c.pop.new.self) c.in-Some.field-0
          c.entry.invariant.2 c.in-Some.ensures.permutation (c.in-Some.ensures.heap_order c.entry.invariant.2.ordered).0 up,
    )
