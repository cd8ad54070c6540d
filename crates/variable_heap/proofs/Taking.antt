-- What is true after a variable was taken out.
use Rattle.std.proofs.Common.{◌≡◌, ◌≢◌, ℕ, ◌+◌, ◌<◌, ◌≤◌, ◌↔◌, List, length, get_or, set, All, Contains, vec_capacity, sym, ap, ◌∙◌, subst, arith}
use Rattle.std.proofs.lemmas.List.{get_or_default, get_or-set_same, get_or-set_other}
use Rattle.variable_heap.specs.declared.heap.VariableHeap.TheInside.{Inside}
use Rattle.variable_heap.specs.Heaps.{Heap, IsInverse, IsOrdered, IsOrderedButDown, IsTaken, HaveSamePlaced}
use Rattle.variable_heap.specs.Kept.{IsKept}
use Rattle.variable_heap.proofs.Places.{placed-below}
use Rattle.variable_heap.proofs.Popping.{IsLonger, ArePopped, popped, popped_places, popped-others, inverse-popped, inverse-last, order-popped, most-at-top}
use Rattle.variable_heap.proofs.Variables.{others-held}

-- a heap whose variable at the top lost its place, alone, and what the places then are
pub record IsOut (xs ps ws rs : List ℕ) (first : ℕ) : Type 0 where
  pub some : 0 < length xs
  pub top : get_or xs 0 0 ≡ first
  pub old : IsInverse xs ps
  pub new : IsInverse ws rs
  pub zero : get_or ps 0 0 ≡ 0
  pub gone : get_or rs first 0 ≡ 0
  pub others : (w : ℕ) → w ≢ first → (get_or ps w 0 ≡ 0) ↔ (get_or rs w 0 ≡ 0)

first-at : (xs ps ws rs : List ℕ) (first : ℕ) → IsOut xs ps ws rs first → get_or ps first 0 ≡ 1
first-at xs ps ws rs first out = ap (λ (w : ℕ). get_or ps w 0) (sym out.top) ∙ out.old.placed 0 out.some

not-zero : (xs ps ws rs : List ℕ) (first : ℕ) → IsOut xs ps ws rs first → first ≢ 0
not-zero xs ps ws rs first out e =
    let at = first-at xs ps ws rs first out in
    let h : get_or ps first 0 ≡ 0 = ap (λ (w : ℕ). get_or ps w 0) e ∙ out.zero in
    omega arith

-- 0 still has no place
pub zero-out : (xs ps ws rs : List ℕ) (first : ℕ) → IsOut xs ps ws rs first → get_or rs 0 0 ≡ 0
zero-out xs ps ws rs first out = (out.others 0 (λ e. not-zero xs ps ws rs first out (sym e))).0 out.zero

-- the variable was one of the most active ones
pub taken : (activity xs ps ws rs : List ℕ) (first : ℕ) (new : Heap) → IsOut xs ps ws rs first → IsOrdered activity xs → new.vars ≡ ws →
    length ws + 1 ≡ length xs → IsTaken activity (record { vars = xs; limit = length ps }) new first
taken activity xs ps ws rs first new out ordered is fewer =
    let some = out.some in
    let at = first-at xs ps ws rs first out in
    let apart = not-zero xs ps ws rs first out in
    let held : (w : ℕ) → Contains ws w ↔ (Contains xs w × (w ≢ first)) = others-held xs ws ps rs first out.old out.new out.gone out.others in
    record {
      held = (0, some, get_or_default xs 0 first 0 some ∙ out.top);
      least = omega arith;
      below = placed-below ps first 0 at;
      most = subst (λ (v : ℕ). All (λ w. get_or activity w 0 ≤ get_or activity v 0) xs) out.top (most-at-top activity xs ordered);
      gone = subst (λ (zs : List ℕ). (w : ℕ) → Contains zs w ↔ (Contains xs w × (w ≢ first))) (sym is) held;
      fewer = omega (arith, ap length is, fewer);
    }

-- where it was alone, the heap is empty then
pub out-last : (xs ys ps : List ℕ) (last : ℕ) → IsLonger xs ys last → length ys ≡ 0 → IsInverse xs ps → get_or ps 0 0 ≡ 0 → IsOut xs ps ys (set ps last 0) last
out-last xs ys ps last l none o zero =
    let size = l.size in
    let top : get_or xs 0 0 ≡ last = ap (λ (j : ℕ). get_or xs j 0) (sym none) ∙ l.at_end in
    let at : get_or ps last 0 ≡ 0 + 1 = ap (λ (w : ℕ). get_or ps w 0) (sym top) ∙ o.placed 0 (omega arith) in
    record {
      some = omega arith;
      top = top;
      old = o;
      new = inverse-last xs ys ps last l none o;
      zero = zero;
      gone = get_or-set_same ps last 0 0 (placed-below ps last 0 at);
      others = λ w ne. let same = get_or-set_other ps last w 0 0 ne in (λ h. same ∙ h, λ h. sym same ∙ h);
    }

-- the places when the last variable sinks from the top
pub sink-start : (xs ys ps ds qs : List ℕ) (last first : ℕ) → IsLonger xs ys last → 0 < length ys → IsInverse xs ps → first ≡ get_or ys 0 0 → ds ≡ ys →
    qs ≡ set ps first 0 → IsInverse (set ds 0 last) (set qs last 1)
sink-start xs ys ps ds qs last first l some o f d q =
    let at : qs ≡ set ps (get_or ys 0 0) 0 = q ∙ ap (λ (w : ℕ). set ps w 0) f in
    subst (λ (zs : List ℕ). IsInverse (set zs 0 last) (set qs last 1)) (sym d) (subst (λ (zs : List ℕ). IsInverse (set ys 0 last) (set zs last 1)) (sym at) (inverse-popped xs ys ps last l some o))

pub sink-order : (activity xs ys ds : List ℕ) (last : ℕ) → IsLonger xs ys last → ds ≡ ys → IsOrdered activity xs → IsOrderedButDown activity (set ds 0 last) 0
sink-order activity xs ys ds last l d o = subst (λ (zs : List ℕ). IsOrderedButDown activity (set zs 0 last) 0) (sym d) (order-popped activity xs ys last l o)

pub out-first : (xs ys ps qs ws rs : List ℕ) (last first : ℕ) → IsLonger xs ys last → 0 < length ys → IsInverse xs ps → get_or ps 0 0 ≡ 0 →
    first ≡ get_or ys 0 0 → qs ≡ set ps first 0 → IsInverse ws rs → HaveSamePlaced (set qs last 1) rs → IsOut xs ps ws rs first
out-first xs ys ps qs ws rs last first l some o zero f q new given =
    let size = l.size in
    let p : ArePopped ys ps last = popped xs ys ps last l some o in
    let at : qs ≡ set ps (get_or ys 0 0) 0 = q ∙ ap (λ (w : ℕ). set ps w 0) f in
    let same : HaveSamePlaced (popped_places ys ps last) rs = subst (λ (zs : List ℕ). HaveSamePlaced (set zs last 1) rs) at given in
    record {
      some = omega arith;
      top = l.front 0 some ∙ sym f;
      old = o;
      new = new;
      zero = zero;
      gone = ap (λ (w : ℕ). get_or rs w 0) f ∙ (same (get_or ys 0 0)).0 p.gone;
      others = λ w ne. let other = popped-others ys ps last p w (λ e. ne (e ∙ sym f)) in (λ h. (same w).0 (other.0 h), λ h. other.1 ((same w).1 h));
    }

-- what is kept true of the fields
pub kept : (t u : Inside) (ws rs : List ℕ) → IsKept t → u.vars.items ≡ ws → u.places.items ≡ rs → IsInverse ws rs → get_or rs 0 0 ≡ 0 →
    length rs ≡ length t.places.items → vec_capacity t.vars ≤ vec_capacity u.vars → IsKept u
kept t u ws rs old vars places inverse zero size room =
    let was = old.room in
    let few = old.few in
    record {
      inverse = subst (λ (xs : List ℕ). IsInverse xs u.places.items) (sym vars) (subst (λ (ps : List ℕ). IsInverse ws ps) (sym places) inverse);
      zero = ap (λ (ps : List ℕ). get_or ps 0 0) places ∙ zero;
      room = omega (arith, ap length places, size, was, room);
      few = omega (arith, ap length places, size, few);
    }
