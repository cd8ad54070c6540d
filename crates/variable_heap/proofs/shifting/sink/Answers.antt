use Rattle.std.proofs.Common.{◌≡◌, ℕ, ◌+◌, ◌<◌, List, length, get_or, set, ap, arith}
use Rattle.std.proofs.lemmas.List.{length-set}
use Rattle.variable_heap.specs.Heaps.{IsInverse, IsFirstBelow}
use Rattle.variable_heap.proofs.Exchanges.{moved, valued}
use Rattle.variable_heap.proofs.Orders.{not-more, first-set, order-down}
use Rattle.variable_heap.proofs.Places.{IsMove, GivesWay, own-below, gives-way, inverse-moved, same-moved, moved_vars}
use Rattle.variable_heap.proofs.shifting.sink.Goals as goal

move : (activity vars places : List ℕ) (v i j : ℕ) → i < length vars → IsInverse (set vars i v) (set places v (i + 1)) → IsFirstBelow activity vars i j → IsMove vars places v i j
move activity vars places v i j within inverse first =
    let below = first.below in
    record {
      from_in = within;
      to_in = first.within;
      apart = omega arith;
      inverse = inverse;
    }

pub comes_before-requires-clause-one : goal.comes_before-requires-clause-one
comes_before-requires-clause-one c =
    let below = own-below c.loop-below.vars c.loop-below.places c.args.var c.loop-below.place c.loop-below.invariant.within c.loop-below.invariant.inverse in
    omega (arith, below, c.loop-below.auto.places, c.requires.known)

pub comes_before-requires-clause-other : goal.comes_before-requires-clause-other
comes_before-requires-clause-other c =
    let way = gives-way _ _ _ _ _
    (move c.args.activity.now c.loop-below.vars c.loop-below.places c.args.var c.loop-below.place c.in-Some.below c.loop-below.invariant.within c.loop-below.invariant.inverse c.in-Some.ensures) in
    let below = way.other_below in
    omega (arith, below, c.loop-below.auto.places, c.requires.known)

pub bounds-places-other : goal.bounds-places-other
bounds-places-other c =
    (gives-way _ _ _ _ _ (move c.args.activity.now c.loop-below.vars c.loop-below.places c.args.var c.loop-below.place c.in-Some.below c.loop-below.invariant.within
    c.loop-below.invariant.inverse c.in-Some.ensures)).other_below

pub loop-below-preserved : goal.loop-below-preserved
loop-below-preserved c =
    let vars = c.loop-below.vars in
    let v = c.args.var in
    let i = c.loop-below.place in
    let j = c.in-Some.below in
    let activity = c.args.activity.now in
    let inv = c.loop-below.invariant in
    let first : IsFirstBelow activity vars i j = c.in-Some.ensures in
    let m : IsMove vars c.loop-below.places v i j = move activity vars c.loop-below.places v i j inv.within inv.inverse first in
    let way : GivesWay vars c.loop-below.places v i j = gives-way vars c.loop-below.places v i j m in
    let size : length (set vars i v) ≡ length vars = length-set vars i v in
    let size2 : length (set vars i (get_or vars j 0)) ≡ length vars = length-set vars i (get_or vars j 0) in
    let size3 : length (moved_vars vars v i j) ≡ length (set vars i (get_or vars j 0)) = length-set (set vars i (get_or vars j 0)) j v in
    let within = first.within in
    let exchange = valued (λ w. get_or activity w 0) _ _ i j (moved vars i j v m.from_in m.to_in m.apart) in
    let here = ap (λ (w : ℕ). get_or activity w 0) way.here in
    let there = ap (λ (w : ℕ). get_or activity w 0) way.there in
    let more = not-more activity v (get_or vars j 0) c.comes_before.result c.comes_before.ensures c.if-comes_before.false in
    let same = same-moved vars c.loop-below.places v i j m in
    record {
      within = omega arith;
      inverse = inverse-moved vars c.loop-below.places v i j m;
      same = λ w. (λ e. (same w).0 ((inv.same w).0 e), λ e. (inv.same w).1 ((same w).1 e));
      order = λ start. order-down activity (set vars i v) (moved_vars vars v i j) i j (omega arith) exchange (first-set activity vars v i j first) (omega (arith, here, there, more)) (inv.order start);
    }

pub bounds-places-var : goal.bounds-places-var
bounds-places-var c = own-below c.loop-below.vars c.loop-below.places c.args.var c.loop-below.place c.loop-below.invariant.within c.loop-below.invariant.inverse
