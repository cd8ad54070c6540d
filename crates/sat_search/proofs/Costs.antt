-- What clauses cost, and which may be dropped.
use Rattle.std.proofs.Common.{◌≡◌, ◌≢◌, ℕ, zero, suc, ◌+◌, ◌-◌, ◌<◌, ◌≤◌, ◌==◌, ◌||◌, Bool, true, false, cond, nat_le, nat_lt, inl}
use Rattle.std.proofs.Common.{inr, List, [], ◌∷◌, ◌++◌, length, take, get_or, slice_get, refl, ap, sym, ◌∙◌, add-one, arith, Option, Some, None}
use Rattle.std.specs.List.{position, Any, sum_by}
use Rattle.std.specs.Option.{is_some, option_map, option_and_then}
use Rattle.std.proofs.lemmas.Bool.{cases_eq, eq-eqb, ne_eqb, eqb-true, le-leb, lt-leb, lt-ltb, cond-true}
use Rattle.std.proofs.lemmas.Option.{slice_get_within, slice_get-get_or, get_or_from_slice_get, none-some, same_Some}
use Rattle.std.proofs.lemmas.List.{get_or-take, length-take}
use Rattle.std.proofs.lemmas.List.Elements.{All-weaker}
use Rattle.std.proofs.lemmas.List.Folds.{list_any-from_Any, list_any_none}
use Rattle.std.proofs.lemmas.List.Sums.{position_or_len_is, sum_by_push}
use Rattle.std.proofs.lemmas.List.Quantifiers.{position-Some}
use Rattle.cnf_types.specs.declared.literal.Lit.{Lit}
use Rattle.sat_core.specs.Trails.{id_at, clause_at}
use Rattle.sat_core.specs.declared.assigned.Assigned.{Assigned}
use Rattle.sat_core.specs.declared.assigned.Held.{Held}
use Rattle.sat_core.specs.declared.numbered.Numbered.{Numbered}
use Rattle.sat_core.specs.States.{State}
use Rattle.sat_core.specs.Forgotten.{IsNoReason, moved, moved_reason, moved_entries, without_at, without_clause}
use Rattle.sat_core.proofs.Removed.{no_clause, moved-last, moved-other, to_removed}
use Rattle.sat_search.specs.declared.lemmas.Lemmas.{Lemmas}
use Rattle.sat_search.specs.Costs.{is_at, is_reason, place_among, dropping_place, cost_at, cost_of, is_as_much, one_if, count_below, counts, costing, droppable, Rise}

-- ---- where a lemma stands

pub stands_at : (ids : List ℕ) (old id place : ℕ) → Rise ids → place < old → slice_get ids place ≡ Some id → position (λ i. i == id) (take old ids) ≡ Some place
stands_at ids old id place rise low at =
    let xs = take old ids in
    let within : place < length ids = slice_get_within ids place id at in
    let size = length-take old ids in
    let here : get_or ids place 0 ≡ id = get_or_from_slice_get ids place id 0 at in
    let below : place < length xs = omega (arith, size, within, low) in
    let before : (k : ℕ) → k < place → (get_or xs k 0 == id) ≡ false = λ k less.
    ne_eqb (get_or xs k 0) id (λ e. omega (arith, e, rise k place 0 less within, here, get_or-take old ids k 0 (omega (arith, less, low)))) in
    let first = position_or_len_is (λ (i : ℕ). i == id) xs place 0 (omega (arith, below)) before (λ l. eq-eqb (get_or xs place 0) id (get_or-take old ids place 0 low ∙ here)) in
    ap (λ (n : ℕ). cond (nat_lt n (length xs)) (Some n) None) first ∙ cond-true (nat_lt place (length xs)) (Some place) None (lt-ltb place (length xs) below)

nowhere : (ids : List ℕ) (old id : ℕ) → ((place : ℕ) → place < old → slice_get ids place ≢ Some id) → (o : Option ℕ) → position (λ i. i == id) (take old ids) ≡ o → o ≡ None
nowhere ids old id other None is = refl
nowhere ids old id other (Some k) is =
    let found = position-Some (λ (i : ℕ). i == id) (take old ids) k 0 is in
    let size = length-take old ids in
    let low : k < old = omega (arith, found.0, size) in
    let within : k < length ids = omega (arith, found.0, size) in
    absurd (other k low (slice_get-get_or ids k 0 within ∙ ap (λ (n : ℕ). Some n) (sym (get_or-take old ids k 0 low) ∙ eqb-true (get_or (take old ids) k 0) id found.1)))

pub stands_nowhere : (ids : List ℕ) (old id : ℕ) → ((place : ℕ) → place < old → slice_get ids place ≢ Some id) → position (λ i. i == id) (take old ids) ≡ None
stands_nowhere ids old id other = nowhere ids old id other (position (λ i. i == id) (take old ids)) refl

-- ---- reasons

at-none : (place : ℕ) (r : Option Held) (h : Held) → h.0 ≡ place → r ≢ Some h → is_at place r ≡ false
at-none place None h is other = refl
at-none place (Some k) h is other = ne_eqb k.0 place (λ e. other (ap (λ (n : ℕ). Some (record { 0 = n })) (e ∙ sym is)))

pub is_one : (trail : List Assigned) (h : Held) → Any (λ e. e.reason ≡ Some h) trail → is_reason trail h.0 ≡ true
is_one trail h (k, e, low, at, is) = list_any-from_Any (λ (e : Assigned). is_at h.0 e.reason) trail (k, e, low, at, ap (is_at h.0) is ∙ eq-eqb h.0 h.0 refl)

pub is_none_of : (trail : List Assigned) (h : Held) → IsNoReason trail h → is_reason trail h.0 ≡ false
is_none_of trail h other = list_any_none (λ (e : Assigned). is_at h.0 e.reason) trail
    (All-weaker (λ (e : Assigned). e.reason ≢ Some h) (λ e. is_at h.0 e.reason ≡ false) (λ e other. at-none h.0 e.reason h refl other) trail other)

-- ---- one clause

or_true : (a : Bool) → (a || true) ≡ true
or_true true = refl
or_true false = refl

module _ (ids : List ℕ) (old : ℕ) (s : State) (h : Held) (c : Numbered) (here : slice_get s.clauses h.0 ≡ Some c) where
  opened : dropping_place ids old s h.0 ≡ place_among ids old (is_reason s.trail h.0) c
  opened = ap (λ (o : Option Numbered). option_and_then (place_among ids old (is_reason s.trail h.0)) o) here

  either : (b : Bool) (o : Option ℕ) → o ≡ None → cond b None o ≡ None
  either true o none = refl
  either false o none = none

  pub other_stays : ((place : ℕ) → place < old → slice_get ids place ≢ Some c.id) → dropping_place ids old s h.0 ≡ None
  other_stays other = opened ∙ either (nat_le (length c.lits) 2 || is_reason s.trail h.0) (position (λ id. id == c.id) (take old ids)) (stands_nowhere ids old c.id other)

  pub may_go : (place : ℕ) → Rise ids → 2 < length c.lits → is_reason s.trail h.0 ≡ false → place < old → slice_get ids place ≡ Some c.id → dropping_place ids old s h.0 ≡ Some place
  may_go place rise long other low at =
      opened ∙ ap (λ (b : Bool). cond (nat_le (length c.lits) 2 || b) None (position (λ id. id == c.id) (take old ids))) other
      ∙ ap (λ (b : Bool). cond (b || false) None (position (λ id. id == c.id) (take old ids))) (lt-leb (length c.lits) 2 long)
      ∙ stands_at ids old c.id place rise low at

-- the clause at a place that has an id and literals
at-id : (o : Option Numbered) (id : ℕ) (lits : List Lit) → option_map (λ c. c.id) o ≡ Some id → option_map (λ c. c.lits) o ≡ Some lits → (c : Numbered) × (o ≡ Some c) × (c.id ≡ id) × (c.lits ≡ lits)
at-id None id lits is has = absurd (none-some id is)
at-id (Some c) id lits is has = (c, refl, same_Some c.id id is, same_Some c.lits lits has)

module _ (lemmas : Lemmas) (used : List Bool) (s : State) (h : Held) (id : ℕ) (lits : List Lit) (id_is : id_at s.clauses h ≡ Some id) (lits_are : clause_at s.clauses h ≡ Some lits) where
  clause : (c : Numbered) × (slice_get s.clauses h.0 ≡ Some c) × (c.id ≡ id) × (c.lits ≡ lits)
  clause = at-id (slice_get s.clauses h.0) id lits id_is lits_are

  priced : (o : Option ℕ) → dropping_place lemmas.ids.items (length used) s h.0 ≡ o → cost_of lemmas used s h.0 ≡ option_map (cost_at lemmas.levels.items used) o
  priced o is = ap (option_map (cost_at lemmas.levels.items used)) is

  pub costs_other : ((place : ℕ) → place < length used → slice_get lemmas.ids.items place ≢ Some id) → cost_of lemmas used s h.0 ≡ None
  costs_other other = priced None (other_stays lemmas.ids.items (length used) s h clause.0 clause.1 (λ place low at. other place low (at ∙ ap (λ (n : ℕ). Some n) clause.2)))

  pub costs_this : (place : ℕ) → Rise lemmas.ids.items → 2 < length lits → IsNoReason s.trail h → place < length used →
      slice_get lemmas.ids.items place ≡ Some id → cost_of lemmas used s h.0 ≡ Some (cost_at lemmas.levels.items used place)
  costs_this place rise long free low at = priced (Some place)
      (may_go lemmas.ids.items (length used) s h clause.0 clause.1 place rise (omega (arith, long, ap (λ (ls : List Lit). length ls) clause.3)) (is_none_of s.trail h free) low
      (at ∙ ap (λ (n : ℕ). Some n) (sym clause.2)))

-- ---- a clause that is forgotten

same-place : (last at p : ℕ) (r : Option Held) → p < at → p < last → is_at p (moved_reason last at r) ≡ is_at p r
same-place last at p None low below = refl
same-place last at p (Some h) low below = elim (cases_eq h.0 last) [
  | inl is ↦ ap (λ (n : ℕ). moved last at n == p) is ∙ ap (λ (n : ℕ). n == p) (moved-last last at) ∙ ne_eqb at p (λ e. omega (arith, e)) ∙ sym (ne_eqb h.0 p (λ e. omega (arith, e, is)))
  | inr other ↦ ap (λ (n : ℕ). n == p) (moved-other last at h.0 other)
]

same-reasons : (last at p : ℕ) (trail : List Assigned) → p < at → p < last → is_reason (moved_entries last at trail) p ≡ is_reason trail p
same-reasons last at p [] low below = refl
same-reasons last at p (e ∷ trail) low below =
    ap (λ (b : Bool). b || is_reason (moved_entries last at trail) p) (same-place last at p e.reason low below)
    ∙ ap (λ (b : Bool). is_at p e.reason || b) (same-reasons last at p trail low below)

same-clause : (xs : List Numbered) (at p : ℕ) → at < length xs → p < at → slice_get (without_at xs at) p ≡ slice_get xs p
same-clause xs at p inside low =
    let none : Numbered = record { id = 0; lits = [] } in
    let is : slice_get xs p ≡ Some (get_or xs p none) = slice_get-get_or xs p none (omega (arith, inside, low)) in
    ap (λ (n : ℕ). slice_get (without_at xs at) n) (sym (moved-other (length xs - 1) at p (λ e. omega (arith, e, inside, low))))
    ∙ to_removed no_clause xs at inside p (get_or xs p none) (λ e. omega (arith, e, low)) is ∙ sym is

-- those before it may be dropped as before
pub before_stays : (ids : List ℕ) (old : ℕ) (s : State) (h : Held) (p : ℕ) → h.0 < length s.clauses → p < h.0 → dropping_place ids old (without_clause s h) p ≡ dropping_place ids old s p
before_stays ids old s h p inside low =
    ap (λ (o : Option Numbered). option_and_then (place_among ids old (is_reason (moved_entries (length s.clauses - 1) h.0 s.trail) p)) o) (same-clause s.clauses h.0 p inside low)
    ∙ ap (λ (b : Bool). option_and_then (place_among ids old b) (slice_get s.clauses p)) (same-reasons (length s.clauses - 1) h.0 p s.trail low (omega (arith, inside, low)))

-- ---- how many

count_same : (f g : ℕ → Bool) (n : ℕ) → ((k : ℕ) → k < n → f k ≡ g k) → count_below f n ≡ count_below g n
count_same f g zero same = refl
count_same f g (suc n) same = omega (arith, count_same f g n (λ k low. same k (omega (arith, low))), ap one_if (same n (omega arith)))

pub count_next : (f : ℕ → Bool) (n : ℕ) → count_below f (n + 1) ≡ count_below f n + one_if (f n)
count_next f n = rw add-one refl

pub one_most : (b : Bool) → one_if b ≤ 1
one_most true = omega arith
one_most false = omega arith

pub count_most : (f : ℕ → Bool) (n : ℕ) → count_below f n ≤ n
count_most f zero = omega arith
count_most f (suc n) = omega (arith, count_most f n, one_most (f n))

pub before_costs : (lemmas : Lemmas) (used : List Bool) (least : ℕ) (s : State) (h : Held) (n : ℕ) → h.0 < length s.clauses → n ≤ h.0 →
    costing lemmas used least (without_clause s h) n ≡ costing lemmas used least s n
before_costs lemmas used least s h n inside low =
    count_same (λ p. is_as_much least (cost_of lemmas used (without_clause s h) p)) (λ p. is_as_much least (cost_of lemmas used s p)) n
    (λ k less. ap (λ (o : Option ℕ). is_as_much least (option_map (cost_at lemmas.levels.items used) o)) (before_stays lemmas.ids.items (length used) s h k inside (omega (arith, less, low))))

any-cost : (f : ℕ → ℕ) (o : Option ℕ) → is_as_much 0 (option_map f o) ≡ is_some o
any-cost f None = refl
any-cost f (Some n) = le-leb 0 (f n) (omega arith)

-- each clause that may be dropped costs something
pub all_cost : (lemmas : Lemmas) (used : List Bool) (s : State) → costing lemmas used 0 s (length s.clauses) ≡ droppable lemmas.ids.items (length used) s
all_cost lemmas used s =
    count_same (λ p. is_as_much 0 (cost_of lemmas used s p)) (λ p. is_some (dropping_place lemmas.ids.items (length used) s p)) (length s.clauses)
    (λ k low. any-cost (cost_at lemmas.levels.items used) (dropping_place lemmas.ids.items (length used) s k))

-- ---- the costs of all

one-cost : (least : ℕ) (o : Option ℕ) (cost : ℕ) → o ≡ Some cost → one_if (is_as_much least o) ≡ counts least cost
one-cost least o cost is = ap (λ (p : Option ℕ). one_if (is_as_much least p)) is

pub cost_joins : (least cost : ℕ) (xs new : List ℕ) (f : ℕ → Option ℕ) (n : ℕ) → sum_by (counts least) xs ≡ count_below (λ at. is_as_much least (f at)) n →
    new ≡ xs ++ cost ∷ [] → Some cost ≡ f n → sum_by (counts least) new ≡ count_below (λ at. is_as_much least (f at)) (n + 1)
cost_joins least cost xs new f n before grown is =
    omega (arith, ap (sum_by (counts least)) grown, sum_by_push (counts least) xs cost, before, count_next (λ at. is_as_much least (f at)) n, one-cost least (f n) cost (sym is))

pub cost_misses : (least : ℕ) (xs new : List ℕ) (f : ℕ → Option ℕ) (n : ℕ) → sum_by (counts least) xs ≡ count_below (λ at. is_as_much least (f at)) n →
    new ≡ xs → None ≡ f n → sum_by (counts least) new ≡ count_below (λ at. is_as_much least (f at)) (n + 1)
cost_misses least xs new f n before grown is =
    omega (arith, ap (sum_by (counts least)) grown, before, count_next (λ at. is_as_much least (f at)) n, ap (λ (p : Option ℕ). one_if (is_as_much least p)) (sym is))
