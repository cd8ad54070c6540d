use Rattle.std.proofs.Common.{◌≡◌, ℕ, ◌-◌, ◌<◌, List, length, get_or, sym, ap, ◌∙◌, subst, arith}
use Rattle.std.proofs.lemmas.List.{get_or_default, with_items_is}
use Rattle.variable_heap.specs.Heaps.{Heap, IsOrdered, HaveSame}
use Rattle.variable_heap.specs.declared.heap.VariableHeap.TheInside.{Inside}
use Rattle.variable_heap.specs.Kept.{heap, IsKept}
use Rattle.variable_heap.proofs.Putting.{IsThere, there-inverse, there-same, there-order}
use Rattle.variable_heap.proofs.Variables.{fits, same-held}
use Rattle.variable_heap.proofs.heap.VariableHeap.raise.Goals as goal

-- the place that was read is where the variable stands
read : (t : Inside) (h : Heap) (ds qs : List ℕ) (v next : ℕ) → IsKept t → heap t ≡ h → v < h.limit → next ≡ get_or t.places.items v next → 0 < next →
    ds ≡ t.vars.items → qs ≡ t.places.items → IsThere t.vars.items t.places.items ds qs v (next - 1)
read t h ds qs v next kept is within at some vars places =
    let limit : length t.places.items ≡ h.limit = ap (λ (h : Heap). h.limit) is in
    let below : v < length t.places.items = omega arith in
    let same : next ≡ get_or t.places.items v 0 = at ∙ get_or_default t.places.items v next 0 below in
    record {
      old = kept.inverse;
      at = omega arith;
      vars = vars;
      places = places;
    }

pub rise-requires-clause-within : goal.rise-requires-clause-within
rise-requires-clause-within c =
    let t = c.self.inside in
    let there = read t c.args.self.now c.deref_mut.result.now c.deref_mut-then-next-gt0.result.now c.args.var c.index-next.result.now c.self.invariant c.self.view_is c.requires.below
    c.index-next.ensures c.if-next-gt0.true c.deref_mut.ensures.value c.deref_mut-then-next-gt0.ensures.value in
    omega (arith, there.old.within c.args.var (c.index-next.result.now - 1) there.at, ap length there.vars)

pub rise-requires-clause-few : goal.rise-requires-clause-few
rise-requires-clause-few c =
    let t = c.self.inside in
    omega (arith, ap length c.deref_mut.ensures.value, fits t.vars.items t.places.items c.self.invariant.inverse, c.self.invariant.few)

pub rise-requires-clause-inverse : goal.rise-requires-clause-inverse
rise-requires-clause-inverse c =
    let t = c.self.inside in
    there-inverse t.vars.items t.places.items c.deref_mut.result.now c.deref_mut-then-next-gt0.result.now c.args.var (c.index-next.result.now - 1)
    (read t c.args.self.now c.deref_mut.result.now c.deref_mut-then-next-gt0.result.now c.args.var c.index-next.result.now c.self.invariant c.self.view_is c.requires.below
    c.index-next.ensures c.if-next-gt0.true c.deref_mut.ensures.value c.deref_mut-then-next-gt0.ensures.value)

pub returns-then-next-gt0-clause-same : goal.returns-then-next-gt0-clause-same
returns-then-next-gt0-clause-same c =
    let t = c.self.inside in
    let ws = c.rise.new.vars in
    let there = read t c.args.self.now c.deref_mut.result.now c.deref_mut-then-next-gt0.result.now c.args.var c.index-next.result.now c.self.invariant c.self.view_is c.requires.below
    c.index-next.ensures c.if-next-gt0.true c.deref_mut.ensures.value c.deref_mut-then-next-gt0.ensures.value in
    let is = with_items_is t.vars ws (omega (arith, c.rise.auto.vars, ap length c.deref_mut.ensures.value, t.vars.ok.0)) in
    let placed = there-same t.vars.items t.places.items c.deref_mut.result.now c.deref_mut-then-next-gt0.result.now c.rise.new.places c.args.var
    (c.index-next.result.now - 1) there c.rise.ensures.same in
    let same = same-held t.vars.items ws t.places.items c.rise.new.places c.self.invariant.inverse c.rise.ensures.inverse placed in
    subst (λ (zs : List ℕ). HaveSame c.args.self.now.vars zs) (sym is) (subst (λ (h : Heap). HaveSame h.vars ws) c.self.view_is same)

pub returns-then-next-gt0-clause-order : goal.returns-then-next-gt0-clause-order
returns-then-next-gt0-clause-order c before raised ordered =
    let t = c.self.inside in
    let activity = c.args.activity.now in
    let there = read t c.args.self.now c.deref_mut.result.now c.deref_mut-then-next-gt0.result.now c.args.var c.index-next.result.now c.self.invariant c.self.view_is c.requires.below
    c.index-next.ensures c.if-next-gt0.true c.deref_mut.ensures.value c.deref_mut-then-next-gt0.ensures.value in
    let is = with_items_is t.vars c.rise.new.vars (omega (arith, c.rise.auto.vars, ap length c.deref_mut.ensures.value, t.vars.ok.0)) in
    let was = subst (λ (h : Heap). IsOrdered before h.vars) (sym c.self.view_is) ordered in
    subst (λ (zs : List ℕ). IsOrdered activity zs) (sym is)
    (c.rise.ensures.order
    (there-order before activity t.vars.items t.places.items c.deref_mut.result.now c.deref_mut-then-next-gt0.result.now c.args.var (c.index-next.result.now - 1) there raised was))
