-- Entries that are taken back: which they are, and what is saved of them.
use Rattle.std.proofs.Common.{◌≡◌, ◌≢◌, ℕ, zero, suc, ◌+◌, ◌-◌, ◌<◌, ◌≤◌, ◌⊎◌, ◌↔◌, inl, inr, Bool, false, List, []}
use Rattle.std.proofs.Common.{◌∷◌, length, get_or, set, take, drop, map, All, Contains, refl, ap, sym, ◌∙◌, subst, arith, ltb, slice_get, Some}
use Rattle.std.proofs.lemmas.Bool.{cond-true, cond-false, lt-ltb, le-ltb}
use Rattle.std.proofs.lemmas.Option.{slice_get-get_or}
use Rattle.std.proofs.lemmas.List.{get_or-take, get_or-drop, get_or-set_same, get_or-set_other, length-take-le, length-drop, drop_more}
use Rattle.std.proofs.lemmas.List.Elements.{All-nil, All-cons, All-head, All-tail, All-contains, Contains-append_left, Contains-append_right, Contains-append_cases}
use Rattle.cnf_types.specs.Literals.{variable, is_positive}
use Rattle.sat_core.specs.declared.assigned.Assigned.{Assigned}
use Rattle.sat_core.specs.States.{State, IsSound}
use Rattle.sat_core.specs.Trails.{IsOf}
use Rattle.sat_search.specs.declared.order.Order.{Order}
use Rattle.sat_search.specs.Orders.{IsReleased, above}
use Rattle.sat_search.proofs.Trails.{AreDistinct}
use Rattle.sat_search.proofs.Sound.{distinct_entries, levels_rise}
use Rattle.sat_search.proofs.Visiting.{in_range}

-- the entries above a level are the last ones

above_all : (level : ℕ) (xs : List Assigned) → All (λ e. level < e.level) xs → above xs level ≡ xs
above_all level [] high = refl
above_all level (x ∷ xs) high =
    cond-true (ltb level x.level) (x ∷ above xs level) (above xs level) (lt-ltb level x.level (All-head (λ e. level < e.level) x xs high)) ∙ ap
    (λ (ys : List Assigned). x ∷ ys) (above_all level xs (All-tail (λ e. level < e.level) x xs high))

above_last : (level : ℕ) (xs : List Assigned) (n : ℕ) → All (λ e. e.level ≤ level) (take n xs) → All (λ e. level < e.level) (drop n xs) → above xs level ≡ drop n xs
above_last level xs zero low high = above_all level xs high
above_last level [] (suc n) low high = refl
above_last level (x ∷ xs) (suc n) low high =
    cond-false (ltb level x.level) (x ∷ above xs level) (above xs level) (le-ltb level x.level (All-head (λ e. e.level ≤ level) x (take n xs) low)) ∙ above_last
    level xs n (All-tail (λ e. e.level ≤ level) x (take n xs) low) high

-- one entry more is taken back
module _ (e : Assigned) (rest : List Assigned) (old mid new : Order) (was : IsReleased rest old mid) (apart : All (λ a. variable a.lit ≢ variable e.lit) rest)
    (low : variable e.lit < length mid.saved.items) (written : new.saved.items ≡ set mid.saved.items (variable e.lit) (is_positive e.lit))
    (put : (w : ℕ) → Contains new.heap.vars w ↔ (Contains mid.heap.vars w ⊎ (w ≡ variable e.lit))) where
  here : get_or new.saved.items (variable e.lit) false ≡ is_positive e.lit
  here = ap (λ (bs : List Bool). get_or bs (variable e.lit) false) written ∙ get_or-set_same mid.saved.items (variable e.lit) (is_positive e.lit) false low

  elsewhere : (v : ℕ) → v ≢ variable e.lit → get_or new.saved.items v false ≡ get_or mid.saved.items v false
  elsewhere v other = ap (λ (bs : List Bool). get_or bs v false) written ∙ get_or-set_other mid.saved.items (variable e.lit) v (is_positive e.lit) false other

  others_stay : (v : ℕ) → All (λ a. variable a.lit ≢ v) (e ∷ rest) → get_or new.saved.items v false ≡ get_or old.saved.items v false
  others_stay v none =
      elsewhere v (λ is. All-head (λ a. variable a.lit ≢ v) e rest none (sym is)) ∙ was.others v (All-tail (λ a. variable a.lit ≢ v) e rest none)

  left_waits : (w : ℕ) → Contains new.heap.vars w → Contains old.heap.vars w ⊎ Contains (map (λ a. variable a.lit) (e ∷ rest)) w
  left_waits w held = elim ((put w).0 held) [
    | inl before ↦ elim ((was.waiting w).0 before) [
      | inl first ↦ inl first
      | inr later ↦ inr (Contains-append_right (variable e.lit ∷ []) (map (λ a. variable a.lit) rest) w later)
    ]
    | inr is ↦ inr (Contains-append_left (variable e.lit ∷ []) (map (λ a. variable a.lit) rest) w (0, omega arith, sym is))
  ]

  waits : (w : ℕ) → Contains old.heap.vars w ⊎ Contains (map (λ a. variable a.lit) (e ∷ rest)) w → Contains new.heap.vars w
  waits w held = elim held [
    | inl first ↦ (put w).1 (inl ((was.waiting w).1 (inl first)))
    | inr some ↦ elim (Contains-append_cases (variable e.lit ∷ []) (map (λ a. variable a.lit) rest) w some) [
      | inl this ↦ (put w).1
          (inr (sym (All-contains (λ v. variable e.lit ≡ v) (variable e.lit ∷ []) w (All-cons (λ v. variable e.lit ≡ v) (variable e.lit) [] refl (All-nil (λ v. variable e.lit ≡ v))) this)))
      | inr later ↦ (put w).1 (inl ((was.waiting w).1 (inr later)))
    ]
  ]

  released_cons : new.activity ≡ mid.activity → new.step ≡ mid.step → IsReleased (e ∷ rest) old new
  released_cons active step = record {
    saved = All-cons (λ a. get_or new.saved.items (variable a.lit) false ≡ is_positive a.lit) e rest here (λ k d l. elsewhere (variable (get_or rest k d).lit) (apart k d l) ∙ was.saved k d l);
    others = others_stay;
    waiting = λ w. (left_waits w, waits w);
    activity = active ∙ was.activity;
    step = step ∙ was.step;
  }

apart_after : (xs : List Assigned) (i : ℕ) (d : Assigned) → AreDistinct xs → i < length xs → All (λ a. variable a.lit ≢ variable (get_or xs i d).lit) (drop (i + 1) xs)
apart_after xs i d distinct low k c l same =
    let within : i + 1 + k < length xs = omega (arith, length-drop (i + 1) xs, l) in
    let at : get_or (drop (i + 1) xs) k c ≡ get_or xs (i + 1 + k) c = get_or-drop (i + 1) xs k c in
    let one : i ≡ i + 1 + k = distinct i (i + 1 + k) (get_or xs i d) (get_or xs (i + 1 + k) c) (slice_get-get_or xs i d low) (slice_get-get_or xs (i + 1 + k) c within)
    (sym same ∙ ap (λ (a : Assigned). variable a.lit) at) in
    absurd (omega (arith, one))

low_before : (xs : List Assigned) (level place : ℕ) (d : Assigned) →
    ((i j : ℕ) → i ≤ j → j < length xs → (c : Assigned) → (get_or xs i c).level ≤ (get_or xs j d).level) → place ≤ length xs →
    (0 < place → (get_or xs (place - 1) d).level ≤ level) → All (λ e. e.level ≤ level) (take place xs)
low_before xs level place d rise within low k c l =
    let size : length (take place xs) ≡ place = length-take-le place xs within in
    let at : get_or (take place xs) k c ≡ get_or xs k c = get_or-take place xs k c (omega (arith, size, l)) in
    let up = rise k (place - 1) (omega (arith, size, l)) (omega (arith, size, l, within)) c in
    omega (arith, ap (λ (e : Assigned). e.level) at, up, low (omega (arith, size, l)))

-- the walk from the end of a sound trail
module _ (s : State) (sound : IsSound s) (trail : List Assigned) (place : ℕ) (d : Assigned) (is : trail ≡ s.trail) (within : place ≤ length trail) where
  trail_distinct : AreDistinct trail
  trail_distinct = subst AreDistinct (sym is) (distinct_entries s.clauses s.vars s.trail s.level sound.trail)

  trail_rises : (i j : ℕ) → i ≤ j → j < length trail → (c : Assigned) → (get_or trail i c).level ≤ (get_or trail j d).level
  trail_rises i j up low c =
      let at : (k : ℕ) (b : Assigned) → k < length trail → slice_get s.trail k ≡ Some (get_or trail k b) =
      λ k b l. ap (λ (xs : List Assigned). slice_get xs k) (sym is) ∙ slice_get-get_or trail k b l in
      levels_rise s.clauses s.vars s.trail s.level sound.trail i j (get_or trail i c) (get_or trail j d) (at i c (omega arith)) (at j d low) up

  pub range_before : 0 < place → IsOf s.vars (get_or trail (place - 1) d).lit
  range_before some = in_range s sound (place - 1) (get_or trail (place - 1) d) (ap (λ (xs : List Assigned). slice_get xs (place - 1)) (sym is) ∙ slice_get-get_or trail (place - 1) d (omega arith))

  rest_before : 0 < place → drop (place - 1) trail ≡ get_or trail (place - 1) d ∷ drop place trail
  rest_before some =
      let next : place - 1 + 1 ≡ place = omega arith in
      drop_more trail (place - 1) d (omega arith) ∙ ap (λ (n : ℕ). get_or trail (place - 1) d ∷ drop n trail) next

  pub above_more : (level : ℕ) → 0 < place → level < (get_or trail (place - 1) d).level → All (λ e. level < e.level) (drop place trail) → All (λ e. level < e.level) (drop (place - 1) trail)
  above_more level some high later = subst (λ (xs : List Assigned). All (λ e. level < e.level) xs) (sym (rest_before some))
      (All-cons (λ e. level < e.level) (get_or trail (place - 1) d) (drop place trail) high later)

  pub released_more : (old mid new : Order) (var same : ℕ) (positive : Bool) → 0 < place → IsReleased (drop place trail) old mid →
      var ≡ variable (get_or trail (place - 1) d).lit → same ≡ variable (get_or trail (place - 1) d).lit →
      positive ≡ is_positive (get_or trail (place - 1) d).lit → var < length mid.saved.items → new.saved.items ≡ set mid.saved.items var positive →
      ((w : ℕ) → Contains new.heap.vars w ↔ (Contains mid.heap.vars w ⊎ (w ≡ same))) → new.activity ≡ mid.activity → new.step ≡ mid.step → IsReleased (drop (place - 1) trail) old new
  released_more old mid new var same positive some was at also sign low written put active step =
      let e : Assigned = get_or trail (place - 1) d in
      let next : place - 1 + 1 ≡ place = omega arith in
      let apart : All (λ a. variable a.lit ≢ variable e.lit) (drop place trail) =
      subst (λ (n : ℕ). All (λ a. variable a.lit ≢ variable e.lit) (drop n trail)) next (apart_after trail (place - 1) d trail_distinct (omega arith)) in
      let put_there : (w : ℕ) → Contains new.heap.vars w ↔ (Contains mid.heap.vars w ⊎ (w ≡ variable e.lit)) =
      subst (λ (v : ℕ). (w : ℕ) → Contains new.heap.vars w ↔ (Contains mid.heap.vars w ⊎ (w ≡ v))) also put in
      let written_there : new.saved.items ≡ set mid.saved.items (variable e.lit) (is_positive e.lit) =
      written ∙ ap (λ (v : ℕ). set mid.saved.items v positive) at ∙ ap (set mid.saved.items (variable e.lit)) sign in
      subst (λ (xs : List Assigned). IsReleased xs old new) (sym (rest_before some))
      (released_cons e (drop place trail) old mid new was apart (subst (λ (v : ℕ). v < length mid.saved.items) at low) written_there put_there active step)

  pub released_all : (level : ℕ) (old new : Order) → (0 < place → (get_or trail (place - 1) d).level ≤ level) → All (λ e. level < e.level) (drop place trail) →
      IsReleased (drop place trail) old new → IsReleased (above s.trail level) old new
  released_all level old new low high released =
      let last : above s.trail level ≡ drop place trail = ap (λ (xs : List Assigned). above xs level) (sym is)
      ∙ above_last level trail place (low_before trail level place d trail_rises within low) high in
      subst (λ (xs : List Assigned). IsReleased xs old new) (sym last) released
