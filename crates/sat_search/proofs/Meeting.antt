-- A false literal that is marked, and the entry that made it false.
use Rattle.std.proofs.Common.{◌≡◌, ◌≢◌, ℕ, zero, suc, ◌+◌, ◌≤◌, Bool, true, false, ◌||◌, cond, IsTrue, IsSome, IfSome, List}
use Rattle.std.proofs.Common.{[], ◌∷◌, length, slice_get, refl, ap, sym, ◌∙◌, subst, arith, Option, Some, None, find, unwrap_or, option_map, not}
use Rattle.std.specs.Prelude.{◌==◌, is_some}
use Rattle.std.proofs.lemmas.Bool.{eq-eqb, eqb-true, or_right, both_ways, false_from_ne_true}
use Rattle.std.proofs.lemmas.Option.{none-some, same_Some}
use Rattle.std.proofs.lemmas.List.Sums.{count_by-le-length}
use Rattle.cnf_types.specs.declared.literal.Lit.{Lit}
use Rattle.cnf_types.specs.Literals.{negated, variable}
use Rattle.proof_check.specs.Propagation.{same}
use Rattle.sat_core.specs.declared.assigned.Assigned.{Assigned}
use Rattle.sat_core.specs.Trails.{is_on, entry_of, IsValue}
use Rattle.sat_core.specs.States.{State, IsSound}
use Rattle.sat_search.specs.Passes.{is_marked, is_open, open_in}
use Rattle.sat_search.proofs.Literals.{negated-negated, variable-negated, eq-same}
use Rattle.sat_search.proofs.Trails.{on-set}
use Rattle.sat_search.proofs.Passing.{distinct, trail_consistent}
use Rattle.sat_search.proofs.Counts.{once, open_one_more}
use Rattle.sat_search.proofs.Marking.{apart_same}

-- the first item that passes, where some item does
record IsFound {X : Type 0} (p : X → Bool) (xs : List X) : Type 0 where
  pub place : ℕ
  pub item : X
  pub at : slice_get xs place ≡ Some item
  pub passes : p item ≡ true
  pub first : find p xs ≡ Some item

found-here : {X : Type 0} (p : X → Bool) (x : X) (xs : List X) (b : Bool) → p x ≡ b → (b ≡ false → IsFound p xs) → IsFound p (x ∷ xs)
found-here p x xs true e rest = record { place = 0; item = x; at = refl; passes = e; first = ap (λ c. cond c (Some x) (find p xs)) e }
found-here p x xs false e rest =
    let later = rest refl in
    record { place = suc later.place; item = later.item; at = later.at; passes = later.passes; first = ap (λ c. cond c (Some x) (find p xs)) e ∙ later.first }

found : {X : Type 0} (p : X → Bool) (xs : List X) (k : ℕ) (x : X) → slice_get xs k ≡ Some x → p x ≡ true → IsFound p xs
found p [] k x at passes = absurd (none-some x at)
found p (y ∷ ys) zero x at passes = found-here p y ys (p y) refl (λ fails. absurd (both_ways (p y) fails (ap p (same_Some y x at) ∙ passes)))
found p (y ∷ ys) (suc k) x at passes = found-here p y ys (p y) refl (λ fails. found p ys k x at passes)

-- the entry that made a literal false
pub record MadeFalse (s : State) (l : Lit) : Type 0 where
  pub place : ℕ
  pub entry : Assigned
  pub at : slice_get s.trail place ≡ Some entry
  pub literal : negated entry.lit ≡ l
  pub is_its : entry_of s.trail (variable l) ≡ Some entry

pub made_false : (s : State) (l : Lit) → IsSound s → IsTrue (is_on s.trail (negated l)) → MadeFalse s l
made_false s l sound off =
    let set = on-set s.trail (negated l) off in
    let var : variable set.entry.lit ≡ variable l = ap variable set.literal ∙ variable-negated l in
    let first = found (λ (e : Assigned). variable e.lit == variable l) s.trail set.place set.entry set.at (eq-eqb (variable set.entry.lit) (variable l) var) in
    let place : set.place ≡ first.place = distinct s sound set.place first.place set.entry first.item set.at first.at (var ∙ sym (eqb-true (variable first.item.lit) (variable l) first.passes)) in
    let same_entry : set.entry ≡ first.item = same_Some set.entry first.item (sym set.at ∙ ap (slice_get s.trail) place ∙ first.at) in
    record {
      place = first.place;
      entry = first.item;
      at = first.at;
      literal =
          ap (λ (e : Assigned). negated e.lit) (sym same_entry) ∙ ap negated set.literal ∙ negated-negated l;
      is_its = first.first;
    }

pub has_entry : (s : State) (l : Lit) → IsSound s → IsTrue (is_on s.trail (negated l)) → IsSome (entry_of s.trail (variable l))
has_entry s l sound off = ap is_some (made_false s l sound off).is_its

level-of : (o : Option Assigned) (e : Assigned) (level : ℕ) → o ≡ Some e → IfSome o (λ x. level ≡ x.level) → level ≡ e.level
level-of None e level is h = absurd (none-some e is)
level-of (Some x) e level is h = h ∙ ap (λ (y : Assigned). y.level) (same_Some x e is)

marked-other : (old new : List Bool) (l : Lit) → ((m : Lit) → is_marked new m ≡ (is_marked old m || same l m)) → (m : Lit) → m ≢ l → is_marked old m ≡ is_marked new m
marked-other old new l marked m apart = sym (marked m ∙ ap (λ b. is_marked old m || b) (apart_same l m apart) ∙ or-false (is_marked old m))
  where
    or-false : (b : Bool) → (b || false) ≡ b
    or-false true = refl
    or-false false = refl

-- one more of the current level is marked, or none
pub met_counted : (s : State) (l : Lit) (old new : List Bool) (level : ℕ) → IsSound s → IsTrue (is_on s.trail (negated l)) → is_marked old l ≡ false →
    ((m : Lit) → is_marked new m ≡ (is_marked old m || same l m)) → IfSome (entry_of s.trail (variable l)) (λ e. level ≡ e.level) →
    open_in s.level s.trail new ≡ open_in s.level s.trail old + once (level == s.level)
met_counted s l old new level sound off unmarked marked level_is =
    let e = made_false s l sound off in
    let its_level : level ≡ e.entry.level = level-of (entry_of s.trail (variable l)) e.entry level e.is_its level_is in
    open_one_more s.level s.trail old new l e.place e.entry (distinct s sound) e.at e.literal unmarked (marked l ∙ or_right (is_marked old l) (same l l) (eq-same l l refl))
    (marked-other old new l marked)
    ∙ ap (λ n. open_in s.level s.trail old + once (n == s.level)) (sym its_level)

pub open_few : (level : ℕ) (s : State) (flags : List Bool) → open_in level s.trail flags ≤ length s.trail
open_few level s flags = count_by-le-length (is_open level flags) s.trail

-- the count of those of the current level, as a literal is marked whose entry has a level
pub count_met : (s : State) (l : Lit) (old new : List Bool) (var level now current : ℕ) → IsSound s → IsTrue (is_on s.trail (negated l)) → is_marked old l ≡ false →
    ((m : Lit) → is_marked new m ≡ (is_marked old m || same l m)) → var ≡ variable l → IfSome (entry_of s.trail var) (λ e. level ≡ e.level) → now ≡ s.level →
    current ≡ open_in s.level s.trail old → current + once (level == now) ≡ open_in s.level s.trail new
count_met s l old new var level now current sound off unmarked marked var_is level_is now_is counted =
    let its = subst (λ (v : ℕ). IfSome (entry_of s.trail v) (λ e. level ≡ e.level)) var_is level_is in
    omega (arith, counted, met_counted s l old new level sound off unmarked marked its, ap (λ (n : ℕ). once (level == n)) now_is)

-- what a core says of a literal's value
pub value_false : (s : State) (l : Lit) (o : Option Bool) → IsSound s → IsValue s.trail l o → is_on s.trail (negated l) ≡ (unwrap_or (option_map not o) false)
value_false s l None sound value = value.not_false
value_false s l (Some true) sound value = false_from_ne_true (is_on s.trail (negated l)) (λ off. trail_consistent s sound l value off)
value_false s l (Some false) sound value = value
