-- Trails whose reasons moved: nothing else changes.
use Rattle.std.proofs.Common.{◌≡◌, ◌≢◌, ℕ, zero, suc, ◌+◌, ◌<◌, ◌≤◌, ◌==◌, Bool, true, false, ◌||◌, cond, List, [], ◌∷◌, ◌++◌, length}
use Rattle.std.proofs.Common.{map, get_or, set, take, drop, Contains, Option, Some, None, is_none, vec_capacity, leb, eqb, length-append, refl, sym, ap, ◌∙◌, subst, arith}
use Rattle.std.specs.List.{slice_get}
use Rattle.std.specs.Option.{option_map}
use Rattle.std.proofs.lemmas.Bool.{cond-false, ne_eqb}
use Rattle.std.proofs.lemmas.List.{take-map, length-map, take-append-drop, take_all, drop_all, append-nil}
use Rattle.std.proofs.lemmas.List.Sums.{sum_by-cons}
use Rattle.std.proofs.lemmas.List.Elements.{All-head, All-tail, Contains-append_right}
use Rattle.std.proofs.lemmas.Option.{slice_get-map, slice_get-get_or, get_or_from_slice_get}
use Rattle.arc_base.proofs.Items.{Contains-head}
use Rattle.cnf_types.specs.declared.literal.Lit.{Lit}
use Rattle.cnf_types.specs.Literals.{variable}
use Rattle.sat_core.specs.declared.assigned.Assigned.{Assigned}
use Rattle.sat_core.specs.declared.assigned.Held.{Held}
use Rattle.sat_core.specs.declared.trail.Trail.TheInside.{Inside}
use Rattle.sat_core.specs.Trails.{EachFollows, IsUnset, is_on, up_to, decisions}
use Rattle.sat_core.specs.Kept.{ArePlaces, IsKeptTrail}
use Rattle.sat_core.proofs.Rising.{decisions-push}
use Rattle.sat_core.proofs.Keeping.{lits-of}
use Rattle.sat_core.specs.Assignments.{Stands, is_set}
use Rattle.sat_core.specs.Forgotten.{moved_entry, moved_entries, moved_reason, IsNoReason}

pub none-moved : (last at : ℕ) (r : Option Held) → is_none (moved_reason last at r) ≡ is_none r
none-moved last at None = refl
none-moved last at (Some h) = refl

pub on-moved : (last at : ℕ) (xs : List Assigned) (l : Lit) → is_on (moved_entries last at xs) l ≡ is_on xs l
on-moved last at [] l = refl
on-moved last at (x ∷ xs) l = ap (λ b. (x.lit.code == l.code) || b) (on-moved last at xs l)

pub same-on : (last at : ℕ) (xs : List Assigned) → is_on (moved_entries last at xs) ≡ is_on xs
same-on last at xs = λ i l. on-moved last at xs l i

pub set-moved : (last at : ℕ) (xs : List Assigned) (var : ℕ) → is_set (moved_entries last at xs) var ≡ is_set xs var
set-moved last at [] var = refl
set-moved last at (x ∷ xs) var = ap (λ b. (variable x.lit == var) || b) (set-moved last at xs var)

pub decisions-moved : (last at : ℕ) (xs : List Assigned) → decisions (moved_entries last at xs) ≡ decisions xs
decisions-moved last at [] = refl
decisions-moved last at (x ∷ xs) =
    let g : Assigned → ℕ = λ (e : Assigned). cond (is_none e.reason) 1 0 in
    sum_by-cons g (moved_entry last at x) (moved_entries last at xs) ∙ ap (λ b. cond b 1 0 + decisions (moved_entries last at xs)) (none-moved last at x.reason)
    ∙ ap (λ (n : ℕ). cond (is_none x.reason) 1 0 + n) (decisions-moved last at xs) ∙ sym (sum_by-cons g x xs)

pub up_to-moved : (last at : ℕ) (xs : List Assigned) (level : ℕ) → up_to (moved_entries last at xs) level ≡ moved_entries last at (up_to xs level)
up_to-moved last at [] level = refl
up_to-moved last at (x ∷ xs) level =
    let f = moved_entry last at in
    let later = up_to-moved last at xs level in
    elim (leb x.level level) as (λ b. cond b (f x ∷ up_to (moved_entries last at xs) level) (up_to (moved_entries last at xs) level) ≡ moved_entries last at
    (cond b (x ∷ up_to xs level) (up_to xs level))) [
      | true ↦ ap (λ (ys : List Assigned). f x ∷ ys) later
      | false ↦ later
    ]

pub take-moved : (last at n : ℕ) (xs : List Assigned) → take n (moved_entries last at xs) ≡ moved_entries last at (take n xs)
take-moved last at n xs = take-map (moved_entry last at) n xs

pub length-moved : (last at : ℕ) (xs : List Assigned) → length (moved_entries last at xs) ≡ length xs
length-moved last at xs = length-map xs (moved_entry last at)

pub counted : (last at : ℕ) (before : List Assigned) (e : Assigned) → decisions (moved_entries last at before ++ moved_entry last at e ∷ []) ≡ decisions (before ++ e ∷ [])
counted last at before e = decisions-push (moved_entries last at before) (moved_entry last at e)
    ∙ ap (λ (n : ℕ). n + cond (is_none (moved_reason last at e.reason)) 1 0) (decisions-moved last at before) ∙ ap (λ b. decisions before + cond b 1 0) (none-moved last at e.reason)
    ∙ sym (decisions-push before e)

-- what is true up to a level stays so
pub level-moved : (last at : ℕ) (xs : List Assigned) (level : ℕ) (l : Lit) → is_on (up_to (moved_entries last at xs) level) l ≡ is_on (up_to xs level) l
level-moved last at xs level l = ap (λ (ys : List Assigned). is_on ys l) (up_to-moved last at xs level) ∙ on-moved last at (up_to xs level) l

-- an entry that stands there stood there
some-mapped : {X Y : Type 0} (f : X → Y) (o : Option X) (y : Y) → option_map f o ≡ Some y → (x : X) × (o ≡ Some x) × (f x ≡ y)
some-mapped f None y e = cc
some-mapped f (Some x) y e = (x, refl, cc)

pub at-moved : (last at : ℕ) (xs : List Assigned) (k : ℕ) (e : Assigned) → slice_get (moved_entries last at xs) k ≡ Some e → (x : Assigned) × (slice_get xs k ≡ Some x) × (moved_entry last at x ≡ e)
at-moved last at xs k e is = some-mapped (moved_entry last at) (slice_get xs k) e (sym (slice_get-map (moved_entry last at) xs k) ∙ is)

-- the parts of the list before a change of each item
pub record Parts {X : Type 0} (f : X → X) (xs before : List X) (e : X) (after : List X) : Type 0 where
  pub front : List X
  pub item : X
  pub rest : List X
  pub is : xs ≡ front ++ item ∷ rest
  pub before_is : map f front ≡ before
  pub item_is : f item ≡ e

pub parts : {X : Type 0} (f : X → X) (xs before : List X) (e : X) (after : List X) → map f xs ≡ before ++ e ∷ after → Parts f xs before e after
parts f [] [] e after h = cc
parts f [] (b ∷ before) e after h = cc
parts f (x ∷ xs) [] e after h = record { front = []; item = x; rest = xs; is = refl; before_is = refl; item_is = cc }
parts f (x ∷ xs) (b ∷ before) e after h =
    let first : f x ≡ b = cc in
    let later : map f xs ≡ before ++ e ∷ after = cc in
    let p = parts f xs before e after later in
    record { front = x ∷ p.front; item = p.item; rest = p.rest; is = ap (λ ys. x ∷ ys) p.is; before_is = ap (λ ys. f x ∷ ys) p.before_is ∙ ap (λ y. y ∷ before) first; item_is = p.item_is }

pub each-moved : (R S : List Assigned → Assigned → Type 0) (last at : ℕ) (xs : List Assigned) →
    ((before : List Assigned) (e : Assigned) → Contains xs e → R before e → S (moved_entries last at before) (moved_entry last at e)) → EachFollows R xs → EachFollows S (moved_entries last at xs)
each-moved R S last at xs step each before after e h =
    let p = parts (moved_entry last at) xs before e after h in
    let held : Contains xs p.item = subst (λ (ys : List Assigned). Contains ys p.item) (sym p.is) (Contains-append_right p.front (p.item ∷ p.rest) p.item (Contains-head p.item p.rest)) in
    subst (λ (y : Assigned). S before y) p.item_is (subst (λ (ys : List Assigned). S ys (moved_entry last at p.item)) p.before_is (step p.front p.item held (each p.front p.rest p.item p.is)))

-- where the last clause is no reason, nothing moves
same-reason : (last at : ℕ) (r : Option Held) → r ≢ Some (record { 0 = last }) → moved_reason last at r ≡ r
same-reason last at None other = refl
same-reason last at (Some h) other =
    let with_place : ℕ → Option Held = λ k. Some (record { 0 = k }) in
    ap with_place (cond-false (eqb h.0 last) at h.0 (ne_eqb h.0 last (λ e. other (ap with_place e))))

pub none-to-move : (last at : ℕ) (xs : List Assigned) → IsNoReason xs (record { 0 = last }) → moved_entries last at xs ≡ xs
none-to-move last at [] none = refl
none-to-move last at (x ∷ xs) none =
    let here : moved_entry last at x ≡ x = ap (λ (r : Option Held). let e : Assigned = record x { reason = r } in e)
    (same-reason last at x.reason (All-head (λ (e : Assigned). e.reason ≢ Some (record { 0 = last })) x xs none)) in
    ap (λ (e : Assigned). e ∷ moved_entries last at xs) here ∙ ap (λ (ys : List Assigned). x ∷ ys)
    (none-to-move last at xs (All-tail (λ (e : Assigned). e.reason ≢ Some (record { 0 = last })) x xs none))

-- the list with its first items changed
abbrev pub mixed : {X : Type 0} → (X → X) → ℕ → List X → List X
mixed f k xs = map f (take k xs) ++ drop k xs

mixed-next : {X : Type 0} (f : X → X) (xs : List X) (k : ℕ) (d : X) → k < length xs → set (mixed f k xs) k (f (get_or (mixed f k xs) k d)) ≡ mixed f (suc k) xs
mixed-next f [] k d l = absurd (omega (arith, l))
mixed-next f (x ∷ xs) zero d l = refl
mixed-next f (x ∷ xs) (suc k) d l = ap (λ ys. f x ∷ ys) (mixed-next f xs k d (omega (arith, l)))

pub mixed-step : {X : Type 0} (f : X → X) (xs : List X) (k : ℕ) (d : X) → k < length xs → set (mixed f k xs) k (f (get_or (mixed f k xs) k d)) ≡ mixed f (k + 1) xs
mixed-step f xs k d l = let next : suc k ≡ k + 1 = omega arith in mixed-next f xs k d l ∙ ap (λ (n : ℕ). mixed f n xs) next

pub mixed-length : {X : Type 0} (f : X → X) (k : ℕ) (xs : List X) → length (mixed f k xs) ≡ length xs
mixed-length f k xs = length-append (map f (take k xs)) (drop k xs) ∙ ap (λ (n : ℕ). n + length (drop k xs)) (length-map (take k xs) f) ∙ sym (length-append (take k xs) (drop k xs))
    ∙ ap length (take-append-drop k xs)

pub mixed-all : {X : Type 0} (f : X → X) (xs : List X) (k : ℕ) → length xs ≤ k → mixed f k xs ≡ map f xs
mixed-all f xs k l = ap (λ ys. map f ys ++ drop k xs) (take_all k xs l) ∙ ap (λ ys. map f xs ++ ys) (drop_all k xs l) ∙ append-nil (map f xs)

-- reasons alone move, and no literals
lits-moved : (last at : ℕ) (xs : List Assigned) → lits-of (moved_entries last at xs) ≡ lits-of xs
lits-moved last at [] = refl
lits-moved last at (x ∷ xs) = ap (λ (ls : List Lit). x.lit ∷ ls) (lits-moved last at xs)

places-moved : (last at : ℕ) (xs : List Assigned) (places : List ℕ) → ArePlaces xs places → ArePlaces (moved_entries last at xs) places
places-moved last at xs places are = record {
  none = λ var h. set-moved last at xs var ∙ are.none var h;
  below = λ var k h. omega (arith, are.below var k h, length-moved last at xs);
  some = λ var k e h.
      let within : k < length xs = are.below var k h in
      let at_e = slice_get-get_or (moved_entries last at xs) k e (omega (arith, within, length-moved last at xs)) in
      let r = at-moved last at xs k (get_or (moved_entries last at xs) k e) at_e in
      ap (λ (x : Assigned). variable x.lit) (sym r.2) ∙ ap (λ (x : Assigned). variable x.lit) (sym (get_or_from_slice_get xs k r.0 r.0 r.1)) ∙ are.some var k r.0 h;
}

-- a trail keeps what is true of it when reasons move
pub kept-renamed : (t u : Inside) (last at : ℕ) → IsKeptTrail t → u.vars ≡ t.vars → u.entries.items ≡ moved_entries last at t.entries.items →
    u.places.items ≡ t.places.items → u.truths.items ≡ t.truths.items → u.level ≡ t.level → vec_capacity t.entries ≤ vec_capacity u.entries →
    u.lits.items ≡ t.lits.items → vec_capacity t.lits ≤ vec_capacity u.lits → IsKeptTrail u
kept-renamed t u last at kept vars items places truths level room lits lits_room =
    let xs = t.entries.items in
    let ys = moved_entries last at xs in
    let each : EachFollows (Stands t.vars) ys = each-moved (Stands t.vars) (Stands t.vars) last at xs (λ before e held s. record {
      range = s.range;
      unset = subst (λ (set : Lit → Bool). IsUnset set e.lit) (sym (same-on last at before)) s.unset;
      level = s.level ∙ sym (counted last at before e);
    }) kept.entries in
    record {
      entries = subst (λ (v : ℕ). EachFollows (Stands v) u.entries.items) (sym vars) (subst (λ (zs : List Assigned). EachFollows (Stands t.vars) zs) (sym items) each);
      levels = level ∙ kept.levels ∙ sym (decisions-moved last at xs) ∙ sym (ap decisions items);
      lits = lits ∙ kept.lits ∙ sym (lits-moved last at xs) ∙ sym (ap lits-of items);
      places = subst (λ (zs : List Assigned). ArePlaces zs u.places.items) (sym items) (subst (λ (ps : List ℕ). ArePlaces ys ps) (sym places) (places-moved last at xs t.places.items kept.places));
      size = omega (arith, ap length places, kept.size, vars);
      truths = λ l. ap (λ (ts : List Bool). get_or ts l.code false) truths ∙ kept.truths l ∙ sym (on-moved last at xs l) ∙ sym (ap (λ (zs : List Assigned). is_on zs l) items);
      truths_size = omega (arith, ap length truths, kept.truths_size, vars);
      room = omega (arith, kept.room, vars, room);
      lits_room = omega (arith, kept.lits_room, vars, lits_room);
      small = omega (arith, kept.small, vars);
    }
