use Rattle.std.proofs.Common.{◌≡◌, ◌≢◌, ℕ, ◌<◌, ◌↔◌, ◌⊎◌, ◌∷◌, ◌++◌, [], inl, inr, true, is_ok, List, length, get_or, Contains, sym, ap, ◌∙◌, subst, arith}
use Rattle.std.proofs.lemmas.Bool.{cond-true}
use Rattle.std.proofs.lemmas.List.{get_or_default, length_push, with_items_is}
use Rattle.variable_heap.specs.Heaps.{Heap, IsOrdered}
use Rattle.variable_heap.proofs.Putting.{IsPut, room, put-inverse, put-order, put-held}
use Rattle.variable_heap.proofs.Variables.{held-at}
use Rattle.variable_heap.proofs.heap.VariableHeap.put.Goals as goal

pub returns-then-index-gt0-clause-put : goal.returns-then-index-gt0-clause-put
returns-then-index-gt0-clause-put c w =
    let t = c.self.inside in
    let v = c.args.var in
    let limit : length t.places.items ≡ c.args.self.now.limit = ap (λ (h : Heap). h.limit) c.self.view_is in
    let below : v < length t.places.items = omega (arith, limit, c.requires.below) in
    let at : c.index.result.now ≡ get_or t.places.items v 0 = c.index.ensures ∙ get_or_default t.places.items v c.index.result.now 0 below in
    let some : get_or t.places.items v 0 ≢ 0 = omega (arith, at, c.if-index-gt0.true) in
    let there : Contains c.args.self.now.vars v = subst (λ (h : Heap). Contains h.vars v) c.self.view_is (held-at t.vars.items t.places.items v c.self.invariant.inverse some) in (
      λ h. inl h,
      λ h. elim h [
        | inl held ↦ held
        | inr e ↦ subst (λ (u : ℕ). Contains c.args.self.now.vars u) (sym e) there
      ],
    )

pub rise-requires-clause-within : goal.rise-requires-clause-within
rise-requires-clause-within c =
    let t = c.self.inside in
    let v = c.args.var in
    let limit : length t.places.items ≡ c.args.self.now.limit = ap (λ (h : Heap). h.limit) c.self.view_is in
    let below : v < length t.places.items = omega (arith, limit, c.requires.below) in
    let none : get_or t.places.items v 0 ≡ 0 = omega (arith, c.index.ensures ∙ get_or_default t.places.items v c.index.result.now 0 below, c.if-index-gt0.false) in
    let ok : is_ok c.push.result ≡ true = c.push.ensures.succeeds (omega (arith, room t.vars.items t.places.items v c.self.invariant.inverse none below, c.self.invariant.room, t.vars.ok.0)) in
    let items : c.push.new.self.items ≡ t.vars.items ++ v ∷ [] = c.push.ensures.items ∙ cond-true (is_ok c.push.result) (t.vars.items ++ v ∷ []) t.vars.items ok in
    omega (arith, ap length c.deref_mut.ensures.value, ap length items, length_push t.vars.items v, c.len-place.ensures, t.vars.ok.0)

pub rise-requires-clause-few : goal.rise-requires-clause-few
rise-requires-clause-few c =
    let t = c.self.inside in
    let v = c.args.var in
    let limit : length t.places.items ≡ c.args.self.now.limit = ap (λ (h : Heap). h.limit) c.self.view_is in
    let below : v < length t.places.items = omega (arith, limit, c.requires.below) in
    let none : get_or t.places.items v 0 ≡ 0 = omega (arith, c.index.ensures ∙ get_or_default t.places.items v c.index.result.now 0 below, c.if-index-gt0.false) in
    let fits = room t.vars.items t.places.items v c.self.invariant.inverse none below in
    omega (arith, fits, c.self.invariant.few, ap length c.deref_mut.ensures.value, c.push.ensures.upper_bound, c.push.new.self.ok.0, t.vars.ok.0)

pub rise-requires-clause-inverse : goal.rise-requires-clause-inverse
rise-requires-clause-inverse c =
    let t = c.self.inside in
    let v = c.args.var in
    let limit : length t.places.items ≡ c.args.self.now.limit = ap (λ (h : Heap). h.limit) c.self.view_is in
    let below : v < length t.places.items = omega (arith, limit, c.requires.below) in
    let none : get_or t.places.items v 0 ≡ 0 = omega (arith, c.index.ensures ∙ get_or_default t.places.items v c.index.result.now 0 below, c.if-index-gt0.false) in
    let ok : is_ok c.push.result ≡ true = c.push.ensures.succeeds (omega (arith, room t.vars.items t.places.items v c.self.invariant.inverse none below, c.self.invariant.room, t.vars.ok.0)) in
    let items : c.push.new.self.items ≡ t.vars.items ++ v ∷ [] = c.push.ensures.items ∙ cond-true (is_ok c.push.result) (t.vars.items ++ v ∷ []) t.vars.items ok in
    put-inverse t.vars.items t.places.items c.deref_mut.result.now c.deref_mut-2.result.now v c.len-place.result (record {
      old = c.self.invariant.inverse;
      none = none;
      below = below;
      end = omega (arith, c.len-place.ensures, t.vars.ok.0);
      vars = c.deref_mut.ensures.value ∙ items;
      places = c.deref_mut-2.ensures.value;
    })

pub returns-clause-put : goal.returns-clause-put
returns-clause-put c =
    let t = c.self.inside in
    let v = c.args.var in
    let limit : length t.places.items ≡ c.args.self.now.limit = ap (λ (h : Heap). h.limit) c.self.view_is in
    let below : v < length t.places.items = omega (arith, limit, c.requires.below) in
    let none : get_or t.places.items v 0 ≡ 0 = omega (arith, c.index.ensures ∙ get_or_default t.places.items v c.index.result.now 0 below, c.if-index-gt0.false) in
    let ok : is_ok c.push.result ≡ true = c.push.ensures.succeeds (omega (arith, room t.vars.items t.places.items v c.self.invariant.inverse none below, c.self.invariant.room, t.vars.ok.0)) in
    let items : c.push.new.self.items ≡ t.vars.items ++ v ∷ [] = c.push.ensures.items ∙ cond-true (is_ok c.push.result) (t.vars.items ++ v ∷ []) t.vars.items ok in
    let put : IsPut t.vars.items t.places.items c.deref_mut.result.now c.deref_mut-2.result.now v c.len-place.result = record {
      old = c.self.invariant.inverse;
      none = none;
      below = below;
      end = omega (arith, c.len-place.ensures, t.vars.ok.0);
      vars = c.deref_mut.ensures.value ∙ items;
      places = c.deref_mut-2.ensures.value;
    } in
    let ws = c.rise.new.vars in
    let is = with_items_is c.push.new.self ws (omega (arith, c.rise.auto.vars, ap length c.deref_mut.ensures.value, c.push.new.self.ok.0)) in
    let held = put-held t.vars.items t.places.items c.deref_mut.result.now c.deref_mut-2.result.now ws c.rise.new.places v c.len-place.result put c.rise.ensures.inverse c.rise.ensures.same in
    subst (λ (zs : List ℕ). (w : ℕ) → Contains zs w ↔ (Contains c.args.self.now.vars w ⊎ (w ≡ v))) (sym is)
    (subst (λ (h : Heap). (w : ℕ) → Contains ws w ↔ (Contains h.vars w ⊎ (w ≡ v))) c.self.view_is held)

pub returns-clause-order : goal.returns-clause-order
returns-clause-order c =
    let t = c.self.inside in
    let v = c.args.var in
    let activity = c.args.activity.now in
    let limit : length t.places.items ≡ c.args.self.now.limit = ap (λ (h : Heap). h.limit) c.self.view_is in
    let below : v < length t.places.items = omega (arith, limit, c.requires.below) in
    let none : get_or t.places.items v 0 ≡ 0 = omega (arith, c.index.ensures ∙ get_or_default t.places.items v c.index.result.now 0 below, c.if-index-gt0.false) in
    let ok : is_ok c.push.result ≡ true = c.push.ensures.succeeds (omega (arith, room t.vars.items t.places.items v c.self.invariant.inverse none below, c.self.invariant.room, t.vars.ok.0)) in
    let items : c.push.new.self.items ≡ t.vars.items ++ v ∷ [] = c.push.ensures.items ∙ cond-true (is_ok c.push.result) (t.vars.items ++ v ∷ []) t.vars.items ok in
    let put : IsPut t.vars.items t.places.items c.deref_mut.result.now c.deref_mut-2.result.now v c.len-place.result = record {
      old = c.self.invariant.inverse;
      none = none;
      below = below;
      end = omega (arith, c.len-place.ensures, t.vars.ok.0);
      vars = c.deref_mut.ensures.value ∙ items;
      places = c.deref_mut-2.ensures.value;
    } in
    let ws = c.rise.new.vars in
    let is = with_items_is c.push.new.self ws (omega (arith, c.rise.auto.vars, ap length c.deref_mut.ensures.value, c.push.new.self.ok.0)) in
    let ordered = subst (λ (h : Heap). IsOrdered activity h.vars) (sym c.self.view_is) c.requires.order in
    subst (λ (zs : List ℕ). IsOrdered activity zs) (sym is)
    (c.rise.ensures.order (put-order activity t.vars.items t.places.items c.deref_mut.result.now c.deref_mut-2.result.now v c.len-place.result put ordered))
