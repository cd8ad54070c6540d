use Rattle.std.proofs.Common.{◌≡◌, ℕ, ◌+◌, ◌-◌, ◌/◌, ◌<◌, List, length, get_or, set, ap, arith}
use Rattle.std.proofs.lemmas.List.{length-set}
use Rattle.variable_heap.specs.Heaps.{IsInverse}
use Rattle.variable_heap.proofs.Exchanges.{moved, valued}
use Rattle.variable_heap.proofs.Orders.{not-less, order-up}
use Rattle.variable_heap.proofs.Places.{IsMove, GivesWay, own-below, gives-way, inverse-moved, same-moved, moved_vars}
use Rattle.variable_heap.proofs.shifting.rise.Goals as goal

move : (vars places : List ℕ) (v i : ℕ) → 0 < i → i < length vars → IsInverse (set vars i v) (set places v (i + 1)) → IsMove vars places v i ((i - 1) / 2)
move vars places v i risen within inverse = record {
  from_in = within;
  to_in = omega arith;
  apart = omega arith;
  inverse = inverse;
}

pub comes_before-requires-clause-one : goal.comes_before-requires-clause-one
comes_before-requires-clause-one c =
    let below = own-below c.loop-place.vars c.loop-place.places c.args.var c.loop-place.place c.loop-place.invariant.within c.loop-place.invariant.inverse in
    omega (arith, below, c.loop-place.auto.places, c.requires.known)

pub comes_before-requires-clause-other : goal.comes_before-requires-clause-other
comes_before-requires-clause-other c =
    let way = gives-way _ _ _ _ _ (move c.loop-place.vars c.loop-place.places c.args.var c.loop-place.place (omega arith) c.loop-place.invariant.within c.loop-place.invariant.inverse) in
    let below = way.other_below in
    omega (arith, below, c.loop-place.auto.places, c.requires.known)

pub bounds-places-other : goal.bounds-places-other
bounds-places-other c =
    (gives-way _ _ _ _ _ (move c.loop-place.vars c.loop-place.places c.args.var c.loop-place.place (omega arith) c.loop-place.invariant.within c.loop-place.invariant.inverse)).other_below

pub loop-place-preserved : goal.loop-place-preserved
loop-place-preserved c =
    let vars = c.loop-place.vars in
    let v = c.args.var in
    let i = c.loop-place.place in
    let j = (i - 1) / 2 in
    let activity = c.args.activity.now in
    let inv = c.loop-place.invariant in
    let m : IsMove vars c.loop-place.places v i j = move vars c.loop-place.places v i (omega arith) inv.within inv.inverse in
    let way : GivesWay vars c.loop-place.places v i j = gives-way vars c.loop-place.places v i j m in
    let size : length (set vars i v) ≡ length vars = length-set vars i v in
    let size2 : length (set vars i (get_or vars j 0)) ≡ length vars = length-set vars i (get_or vars j 0) in
    let size3 : length (moved_vars vars v i j) ≡ length (set vars i (get_or vars j 0)) = length-set (set vars i (get_or vars j 0)) j v in
    let within = inv.within in
    let exchange = valued (λ w. get_or activity w 0) _ _ i j (moved vars i j v m.from_in m.to_in m.apart) in
    let here = ap (λ (w : ℕ). get_or activity w 0) way.here in
    let there = ap (λ (w : ℕ). get_or activity w 0) way.there in
    let more = not-less activity v (get_or vars j 0) (c.comes_before.ensures.0 c.if-not-comes_before.false) in
    let same = same-moved vars c.loop-place.places v i j m in
    record {
      within = omega arith;
      inverse = inverse-moved vars c.loop-place.places v i j m;
      same = λ w. (λ e. (same w).0 ((inv.same w).0 e), λ e. (inv.same w).1 ((same w).1 e));
      order = λ start. order-up activity (set vars i v) (moved_vars vars v i j) i j (omega arith) exchange (omega arith, omega arith) (omega arith) (omega (arith, here, there, more))
          (inv.order start);
    }

pub bounds-places-var : goal.bounds-places-var
bounds-places-var c = own-below c.loop-place.vars c.loop-place.places c.args.var c.loop-place.place c.loop-place.invariant.within c.loop-place.invariant.inverse
