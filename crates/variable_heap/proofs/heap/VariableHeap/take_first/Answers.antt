use Rattle.std.proofs.Common.{◌≡◌, ◌≢◌, ℕ, ◌+◌, ◌<◌, List, length, get_or, set, refl, sym, ap, ◌∙◌, subst, arith}
use Rattle.std.specs.Vec.{with_item, with_items}
use Rattle.std.proofs.lemmas.Bool.{eqb-true, eqb-false}
use Rattle.std.proofs.lemmas.List.{get_or_default, length-set, with_items_is}
use Rattle.variable_heap.specs.Heaps.{Heap, IsOrdered, IsTaken}
use Rattle.variable_heap.proofs.Places.{placed-below}
use Rattle.variable_heap.proofs.Popping.{IsLonger, longer}
use Rattle.variable_heap.proofs.Taking.{IsOut, zero-out, taken, out-last, out-first, sink-start, sink-order, kept}
use Rattle.variable_heap.proofs.Variables.{fits}
use Rattle.variable_heap.proofs.heap.VariableHeap.take_first.Goals as goal

pub invariant_of-self-then-is_empty : goal.invariant_of-self-then-is_empty
invariant_of-self-then-is_empty c =
    let t = c.self.inside in
    let last = c.in_ok-last.last in
    let ys = c.pop.new.self.items in
    let l : IsLonger t.vars.items ys last = longer t.vars.items ys last c.in_ok-last.ensures.items in
    let none : c.pop.new.self.len ≡ 0 = eqb-true c.pop.new.self.len 0 (sym c.is_empty.ensures ∙ c.if-is_empty.true) in
    let out : IsOut t.vars.items t.places.items ys (set t.places.items last 0) last =
    out-last t.vars.items ys t.places.items last l (omega (arith, c.pop.new.self.ok.0)) c.self.invariant.inverse c.self.invariant.zero in
    kept t _ ys (set t.places.items last 0) c.self.invariant refl refl out.new (zero-out t.vars.items t.places.items ys (set t.places.items last 0) last out)
    (length-set t.places.items last 0) (omega (arith, c.pop.ensures.capacity))

pub returns-then-is_empty-clause-taken : goal.returns-then-is_empty-clause-taken
returns-then-is_empty-clause-taken c =
    let t = c.self.inside in
    let activity = c.args.activity.now in
    let last = c.in_ok-last.last in
    let ys = c.pop.new.self.items in
    let rs = set t.places.items last 0 in
    let l : IsLonger t.vars.items ys last = longer t.vars.items ys last c.in_ok-last.ensures.items in
    let size = l.size in
    let none : c.pop.new.self.len ≡ 0 = eqb-true c.pop.new.self.len 0 (sym c.is_empty.ensures ∙ c.if-is_empty.true) in
    let out : IsOut t.vars.items t.places.items ys rs last = out-last t.vars.items ys t.places.items last l (omega (arith, c.pop.new.self.ok.0)) c.self.invariant.inverse c.self.invariant.zero in
    let ordered = subst (λ (h : Heap). IsOrdered activity h.vars) (sym c.self.view_is) c.requires.order in
    let new : Heap = record { vars = ys; limit = length rs } in
    subst (λ (h : Heap). IsTaken activity h new last) c.self.view_is (taken activity t.vars.items t.places.items ys rs last new out ordered refl (omega arith))

-- what the last path knows of the variable at the top
pub index_mut-requires-2 : goal.index_mut-requires-2
index_mut-requires-2 c =
    let t = c.self.inside in
    let last = c.in_ok-last.last in
    let ys = c.pop.new.self.items in
    let first = c.index-first.result.now in
    let l : IsLonger t.vars.items ys last = longer t.vars.items ys last c.in_ok-last.ensures.items in
    let size = l.size in
    let some : c.pop.new.self.len ≢ 0 = eqb-false c.pop.new.self.len 0 (sym c.is_empty.ensures ∙ c.if-is_empty.false) in
    let within : 0 < length ys = omega (arith, c.pop.new.self.ok.0) in
    let f : first ≡ get_or ys 0 0 = c.index-first.ensures ∙ get_or_default ys 0 first 0 within in
    let at : get_or t.places.items first 0 ≡ 0 + 1 = ap (λ (w : ℕ). get_or t.places.items w 0) (f ∙ sym (l.front 0 within)) ∙ c.self.invariant.inverse.placed 0 (omega arith) in
    omega (arith, placed-below t.places.items first 0 at, t.places.ok.0)

pub sink-requires-clause-few : goal.sink-requires-clause-few
sink-requires-clause-few c =
    let t = c.self.inside in
    let l : IsLonger t.vars.items c.pop.new.self.items c.in_ok-last.last = longer t.vars.items c.pop.new.self.items c.in_ok-last.last c.in_ok-last.ensures.items in
    omega (arith, ap length c.deref_mut.ensures.value, l.size, fits t.vars.items t.places.items c.self.invariant.inverse, c.self.invariant.few)

pub sink-requires-clause-inverse : goal.sink-requires-clause-inverse
sink-requires-clause-inverse c =
    let t = c.self.inside in
    let last = c.in_ok-last.last in
    let ys = c.pop.new.self.items in
    let first = c.index-first.result.now in
    let l : IsLonger t.vars.items ys last = longer t.vars.items ys last c.in_ok-last.ensures.items in
    let some : c.pop.new.self.len ≢ 0 = eqb-false c.pop.new.self.len 0 (sym c.is_empty.ensures ∙ c.if-is_empty.false) in
    let within : 0 < length ys = omega (arith, c.pop.new.self.ok.0) in
    let f : first ≡ get_or ys 0 0 = c.index-first.ensures ∙ get_or_default ys 0 first 0 within in
    sink-start t.vars.items ys t.places.items c.deref_mut.result.now c.deref_mut-2.result.now last first l within c.self.invariant.inverse f c.deref_mut.ensures.value c.deref_mut-2.ensures.value

pub invariant_of-self-2 : goal.invariant_of-self-2
invariant_of-self-2 c =
    let t = c.self.inside in
    let last = c.in_ok-last.last in
    let ys = c.pop.new.self.items in
    let first = c.index-first.result.now in
    let ws = c.sink.new.vars in
    let rs = c.sink.new.places in
    let l : IsLonger t.vars.items ys last = longer t.vars.items ys last c.in_ok-last.ensures.items in
    let some : c.pop.new.self.len ≢ 0 = eqb-false c.pop.new.self.len 0 (sym c.is_empty.ensures ∙ c.if-is_empty.false) in
    let within : 0 < length ys = omega (arith, c.pop.new.self.ok.0) in
    let f : first ≡ get_or ys 0 0 = c.index-first.ensures ∙ get_or_default ys 0 first 0 within in
    let out : IsOut t.vars.items t.places.items ws rs first = out-first t.vars.items ys t.places.items c.deref_mut-2.result.now ws rs last first l within c.self.invariant.inverse
    c.self.invariant.zero f c.deref_mut-2.ensures.value c.sink.ensures.inverse c.sink.ensures.same in
    let cut = with_item t.places first 0 in
    let cut_size : length (set t.places.items first 0) ≡ length t.places.items = length-set t.places.items first 0 in
    let vars_is = with_items_is c.pop.new.self ws (omega (arith, c.sink.auto.vars, ap length c.deref_mut.ensures.value, c.pop.new.self.ok.0)) in
    let places_is = with_items_is cut rs (omega (arith, c.sink.auto.places, ap length c.deref_mut-2.ensures.value, t.places.ok.0)) in
    kept t _ ws rs c.self.invariant vars_is places_is c.sink.ensures.inverse (zero-out t.vars.items t.places.items ws rs first out)
    (omega (arith, c.sink.auto.places, ap length c.deref_mut-2.ensures.value)) (omega (arith, c.pop.ensures.capacity))

pub returns-clause-taken : goal.returns-clause-taken
returns-clause-taken c =
    let t = c.self.inside in
    let activity = c.args.activity.now in
    let last = c.in_ok-last.last in
    let ys = c.pop.new.self.items in
    let first = c.index-first.result.now in
    let ws = c.sink.new.vars in
    let rs = c.sink.new.places in
    let l : IsLonger t.vars.items ys last = longer t.vars.items ys last c.in_ok-last.ensures.items in
    let some : c.pop.new.self.len ≢ 0 = eqb-false c.pop.new.self.len 0 (sym c.is_empty.ensures ∙ c.if-is_empty.false) in
    let within : 0 < length ys = omega (arith, c.pop.new.self.ok.0) in
    let f : first ≡ get_or ys 0 0 = c.index-first.ensures ∙ get_or_default ys 0 first 0 within in
    let out : IsOut t.vars.items t.places.items ws rs first = out-first t.vars.items ys t.places.items c.deref_mut-2.result.now ws rs last first l within c.self.invariant.inverse
    c.self.invariant.zero f c.deref_mut-2.ensures.value c.sink.ensures.inverse c.sink.ensures.same in
    let vars_is = with_items_is c.pop.new.self ws (omega (arith, c.sink.auto.vars, ap length c.deref_mut.ensures.value, c.pop.new.self.ok.0)) in
    let ordered = subst (λ (h : Heap). IsOrdered activity h.vars) (sym c.self.view_is) c.requires.order in
    let new : Heap = record { vars = (with_items c.pop.new.self ws).items; limit = length (with_items (with_item t.places first 0) rs).items } in
    subst (λ (h : Heap). IsTaken activity h new first) c.self.view_is
    (taken activity t.vars.items t.places.items ws rs first new out ordered vars_is (omega (arith, c.sink.auto.vars, ap length c.deref_mut.ensures.value, l.size)))

pub returns-clause-order : goal.returns-clause-order
returns-clause-order c =
    let t = c.self.inside in
    let activity = c.args.activity.now in
    let last = c.in_ok-last.last in
    let ys = c.pop.new.self.items in
    let ws = c.sink.new.vars in
    let l : IsLonger t.vars.items ys last = longer t.vars.items ys last c.in_ok-last.ensures.items in
    let vars_is = with_items_is c.pop.new.self ws (omega (arith, c.sink.auto.vars, ap length c.deref_mut.ensures.value, c.pop.new.self.ok.0)) in
    let ordered = subst (λ (h : Heap). IsOrdered activity h.vars) (sym c.self.view_is) c.requires.order in
    subst (λ (zs : List ℕ). IsOrdered activity zs) (sym vars_is) (c.sink.ensures.order (sink-order activity t.vars.items ys c.deref_mut.result.now last l c.deref_mut.ensures.value ordered))
