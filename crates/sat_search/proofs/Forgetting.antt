-- Clauses that a core forgets, and the lemmas of a log that may be dropped.
use Rattle.std.proofs.Common.{◌≡◌, ◌≢◌, ℕ, ◌+◌, ◌-◌, ◌*◌, ◌<◌, ◌≤◌, ◌==◌, Bool, true, false, cond, ◌||◌, IsTrue, IsSomeAnd, inl, inr, List, [], ◌∷◌, ◌++◌, length}
use Rattle.std.proofs.Common.{take, drop, reverse, slice_get, get_or, All, AllPairs, Contains, refl, ap, sym, ◌∙◌, subst, arith, Option, Some, None, option_map, ℤ, Result, Ok, Err, IfOk}
use Rattle.std.specs.List.{list_any}
use Rattle.std.proofs.lemmas.Bool.{cases_eq, cases_lt, cases_order, eq-eqb, lt-ltb}
use Rattle.std.proofs.lemmas.Option.{none-some, same_Some, slice_get_within, get_or_from_slice_get}
use Rattle.std.proofs.lemmas.List.{get_or-reverse, length-reverse, get_or-take, get_or-drop, length-take, length-take-le, length-drop, reverse-append, take_more}
use Rattle.std.proofs.lemmas.List.Folds.{list_any-append}
use Rattle.std.proofs.lemmas.List.Elements.{All-append, All-cons, All-nil, All-weaker}
use Rattle.arc_base.specs.declared.memory.Memory.{Memory}
use Rattle.cnf_types.specs.declared.literal.Lit.{Lit}
use Rattle.proof_log.specs.declared.steps.Step.{Step}
use Rattle.proof_log.specs.declared.steps.Step.TheVariants.{Add, Drop, Bound}
use Rattle.proof_check.specs.Knowledge.{without_clauses}
use Rattle.sat_core.specs.declared.assigned.Assigned.{Assigned}
use Rattle.sat_core.specs.declared.assigned.Held.{Held}
use Rattle.sat_core.specs.declared.numbered.Numbered.{Numbered}
use Rattle.sat_core.specs.States.{State, at_level}
use Rattle.sat_core.specs.Trails.{clause_at, id_at, is_on}
use Rattle.sat_core.specs.Forgotten.{without_at, without_clause, moved_entries}
use Rattle.sat_core.proofs.Removed.{no_clause, from_removed, to_removed, pairs_removed}
use Rattle.clean_logs.specs.CleanLogs.{added_after, drops_after, added_by, dropped_by}
use Rattle.sat_search.specs.Live.{clause_in}
use Rattle.sat_search.specs.Searches.{IsOld, Teaches}
use Rattle.sat_search.specs.Passes.{is_marked}
use Rattle.sat_search.specs.Orders.{IsOrder}
use Rattle.sat_search.specs.Learners.{IsReady}
use Rattle.sat_search.specs.declared.learner.Learner.{Learner}
use Rattle.sat_search.specs.DropSteps.{gap_after, after_one, wait_after, wait_of, is_long, IsHalf}
use Rattle.sat_search.proofs.Waits.{wait_then}
use Rattle.sat_search.specs.Dropping.{old_lemmas, AreLemmas, MayGo, Forgets, ForgetsMore, Drops}
use Rattle.sat_search.specs.declared.lemmas.Lemmas.{Lemmas}
use Rattle.sat_search.proofs.Held.{at_held, held_at}
use Rattle.sat_search.proofs.Clauses.{id_found}
use Rattle.sat_search.proofs.Lives.{without_long, without_other, added_append, dropped_append, dropped_few}

-- ---- one clause

-- the ids of clauses at different places differ
apart : (xs : List Numbered) (i j : ℕ) (a b : Numbered) → AllPairs (λ c d. c.id ≢ d.id) xs → i ≢ j → slice_get xs i ≡ Some a → slice_get xs j ≡ Some b → a.id ≢ b.id
apart xs i j a b different other at to e =
    let here : get_or xs i a ≡ a = get_or_from_slice_get xs i a a at in
    let there : get_or xs j a ≡ b = get_or_from_slice_get xs j b a to in
    elim (cases_order i j) [
      | inl is ↦ other is
      | inr (inl before) ↦ different i j a before (slice_get_within xs j b to) (ap (λ (c : Numbered). c.id) here ∙ e ∙ sym (ap (λ (c : Numbered). c.id) there))
      | inr (inr after) ↦ different j i a after (slice_get_within xs i a at) (ap (λ (c : Numbered). c.id) there ∙ sym e ∙ sym (ap (λ (c : Numbered). c.id) here))
    ]

module _ (xs : List Numbered) (different : AllPairs (λ c d. c.id ≢ d.id) xs) (at : ℕ) (c : Numbered) (here : slice_get xs at ≡ Some c) where
  abbrev inside : at < length xs
  inside = slice_get_within xs at c here

  abbrev ys : List Numbered
  ys = without_at xs at

  -- the ids of those that are left still differ
  pub still_different : AllPairs (λ a b. a.id ≢ b.id) (without_at xs at)
  still_different = pairs_removed no_clause xs at inside (λ a b. a.id ≢ b.id) (λ a b ne e. ne (sym e)) different

  other-id : (j place : ℕ) (a : Numbered) → place ≢ at → slice_get xs place ≡ Some a → a.id ≡ j → c.id ≢ j
  other-id j place a other there is e = apart xs place at a c different other there here (is ∙ sym e)

  found : (j : ℕ) (lits : List Lit) → clause_in ys j ≡ Some lits → clause_in ys j ≡ without_clauses (clause_in xs) (c.id ∷ []) j
  found j lits is =
      let held = at_held ys j lits is in
      let was = from_removed no_clause xs at inside held.place held.clause held.at in
      let before : clause_in xs j ≡ Some lits = ap (clause_in xs) (sym held.id_is) ∙ held_at xs was.0 held.clause different was.2 ∙ ap (λ (ls : List Lit). Some ls) held.lits_are in
      is ∙ sym before ∙ sym (without_other (clause_in xs) (c.id ∷ []) j (All-cons (λ d. d ≢ j) c.id [] (other-id j was.0 held.clause was.1 was.2 held.id_is) (All-nil (λ d. d ≢ j))))

  missing : (j : ℕ) → clause_in ys j ≡ None → c.id ≢ j → (o : Option (List Lit)) → clause_in xs j ≡ o → o ≡ None
  missing j none other None is = refl
  missing j none other (Some lits) is =
      let held = at_held xs j lits is in
      let away : held.place ≢ at = λ e. other (ap (λ (d : Numbered). d.id) (same_Some c held.clause (sym here ∙ ap (slice_get xs) (sym e) ∙ held.at)) ∙ held.id_is) in
      let there = to_removed no_clause xs at inside held.place held.clause away held.at in
      absurd (none-some held.clause.lits (sym none ∙ ap (clause_in ys) (sym held.id_is) ∙ held_at ys _ held.clause still_different there))

  gone : (j : ℕ) → clause_in ys j ≡ None → clause_in ys j ≡ without_clauses (clause_in xs) (c.id ∷ []) j
  gone j none = elim (cases_eq c.id j) [
    | inl is ↦ none ∙ sym (ap (λ (b : Bool). cond (b || false) None (clause_in xs j)) (eq-eqb c.id j is))
    | inr other ↦ none ∙ sym (missing j none other (clause_in xs j) refl) ∙ sym (without_other (clause_in xs) (c.id ∷ []) j (All-cons (λ d. d ≢ j) c.id [] other (All-nil (λ d. d ≢ j))))
  ]

  one-gone : (j : ℕ) (o : Option (List Lit)) → clause_in ys j ≡ o → clause_in ys j ≡ without_clauses (clause_in xs) (c.id ∷ []) j
  one-gone j None is = gone j is
  one-gone j (Some lits) is = found j lits is

  -- the other clauses are left
  pub one_gone : (j : ℕ) → clause_in (without_at xs at) j ≡ without_clauses (clause_in xs) (c.id ∷ []) j
  one_gone j = one-gone j (clause_in ys j) refl

  pub is_long_there : 2 < length c.lits → IsTrue (is_long (clause_in xs c.id))
  is_long_there many = ap is_long (held_at xs at c different here) ∙ lt-ltb 2 (length c.lits) many

-- nothing is forgotten
pub forgets_none : (s : State) → Forgets s [] s
forgets_none s = record { long = All-nil _; clauses = λ id. refl; vars = refl; last_id = refl; level = refl; trail = λ l on. on }

-- other reasons leave what is true
moved-on : (last at : ℕ) (trail : List Assigned) (l : Lit) → is_on (moved_entries last at trail) l ≡ is_on trail l
moved-on last at [] l = refl
moved-on last at (e ∷ trail) l = ap (λ (b : Bool). (e.lit.code == l.code) || b) (moved-on last at trail l)

-- the literals of the clause at a place
lits-of : (o : Option Numbered) (c : Numbered) → IsSomeAnd (option_map (λ d. d.lits) o) (λ lits. 2 < length lits) → o ≡ Some c → 2 < length c.lits
lits-of None c many is = absurd (none-some c is)
lits-of (Some d) c many is = subst (λ (e : Numbered). 2 < length e.lits) (same_Some d c is) many

-- a clause is forgotten
pub forgets_one : (s : State) (h : Held) (id : ℕ) → AllPairs (λ c d. c.id ≢ d.id) s.clauses → id_at s.clauses h ≡ Some id →
    IsSomeAnd (clause_at s.clauses h) (λ lits. 2 < length lits) → Forgets s (id ∷ []) (without_clause s h)
forgets_one s h id different is many =
    let c = id_found s.clauses h id is in
    subst (λ (n : ℕ). Forgets s (n ∷ []) (without_clause s h)) c.2 (record {
      long = All-cons (λ n. IsTrue (is_long (clause_in s.clauses n))) c.0.id [] (is_long_there s.clauses different h.0 c.0 c.1 (lits-of (slice_get s.clauses h.0) c.0 many c.1)) (All-nil _);
      clauses = one_gone s.clauses different h.0 c.0 c.1;
      vars = refl;
      last_id = refl;
      level = refl;
      trail = λ l on. moved-on (length s.clauses - 1) h.0 s.trail l ∙ on;
    })

pub different_then : (s : State) (h : Held) (id : ℕ) → AllPairs (λ c d. c.id ≢ d.id) s.clauses → id_at s.clauses h ≡ Some id → AllPairs (λ c d. c.id ≢ d.id) (without_clause s h).clauses
different_then s h id different is = let c = id_found s.clauses h id is in still_different s.clauses different h.0 c.0 c.1

-- ---- more clauses

twice : (a b : Bool) (o : Option (List Lit)) → cond b None (cond a None o) ≡ cond (a || b) None o
twice true true o = refl
twice true false o = refl
twice false true o = refl
twice false false o = refl

without-twice : (live : ℕ → Option (List Lit)) (ids more : List ℕ) (j : ℕ) → without_clauses (without_clauses live ids) more j ≡ without_clauses live (ids ++ more) j
without-twice live ids more j =
    twice (list_any (λ (d : ℕ). d == j) ids) (list_any (λ (d : ℕ). d == j) more) (live j)
    ∙ ap (λ (b : Bool). cond b None (live j)) (sym (list_any-append (λ (d : ℕ). d == j) ids more))

-- those that were forgotten before, and more
pub forgets_more : (s mid now : State) (ids new : List ℕ) → Forgets s ids mid → ForgetsMore mid ids now new → Forgets s new now
forgets_more s mid now ids new before more =
    let same : clause_in mid.clauses ≡ without_clauses (clause_in s.clauses) ids = λ i j. before.clauses j i in
    subst (λ (is : List ℕ). Forgets s is now) (sym more.grown) (record {
      long = All-append (λ id. IsTrue (is_long (clause_in s.clauses id))) ids more.more before.long
          (All-weaker (λ id. IsTrue (is_long (clause_in mid.clauses id))) (λ id. IsTrue (is_long (clause_in s.clauses id)))
          (λ id long. without_long (clause_in s.clauses) ids id (subst (λ (l : ℕ → Option (List Lit)). IsTrue (is_long (l id))) same long)) more.more more.forgets.long);
      clauses = λ j. more.forgets.clauses j ∙ ap (λ (l : ℕ → Option (List Lit)). without_clauses l more.more j) same ∙ without-twice (clause_in s.clauses) ids more.more j;
      vars = more.forgets.vars ∙ before.vars;
      last_id = more.forgets.last_id ∙ before.last_id;
      level = more.forgets.level ∙ before.level;
      trail = λ l on. more.forgets.trail l (before.trail l on);
    })

pub more_one : (s : State) (ids : List ℕ) (h : Held) (id : ℕ) → AllPairs (λ c d. c.id ≢ d.id) s.clauses → id_at s.clauses h ≡ Some id →
    IsSomeAnd (clause_at s.clauses h) (λ lits. 2 < length lits) → ForgetsMore s ids (without_clause s h) (ids ++ id ∷ [])
more_one s ids h id different is many = record { more = id ∷ []; grown = refl; forgets = forgets_one s h id different is many }

-- ---- the lemmas of a log

-- a lemma joins
pub lemmas_add : (steps : List Step) (old new : Lemmas) (id : ℕ) (step : Step) → AreLemmas steps old → new.ids.items ≡ old.ids.items ++ id ∷ [] → new.drops ≡ old.drops
    → added_by (added_by [] steps) (step ∷ []) ≡ id ∷ added_by [] steps → dropped_by (dropped_by 0 steps) (step ∷ []) ≡ dropped_by 0 steps →
    new.wait ≡ wait_after (dropped_by 0 steps) (wait_of steps) (step ∷ []) → AreLemmas (steps ++ step ∷ []) new
lemmas_add steps old new id step are ids drops adds keeps wait = record {
  ids = ap reverse ids ∙ reverse-append old.ids.items (id ∷ []) ∙ ap (λ (is : List ℕ). id ∷ is) are.ids ∙ sym adds ∙ sym (added_append [] steps (step ∷ []));
  drops = drops ∙ are.drops ∙ sym keeps ∙ sym (dropped_append 0 steps (step ∷ []));
  wait = wait ∙ sym (wait_then steps step);
}

-- or some are dropped
pub lemmas_drop : (steps : List Step) (old new : Lemmas) (ids : List ℕ) → AreLemmas steps old → new.ids.items ≡ old.ids.items → new.drops ≡ old.drops + 1 →
    new.wait ≡ gap_after (old.drops + 1) → AreLemmas (steps ++ Drop ids ∷ []) new
lemmas_drop steps old new ids are same more wait = record {
  ids = ap reverse same ∙ are.ids ∙ sym (added_append [] steps (Drop ids ∷ []));
  drops = omega (arith, more, are.drops, dropped_append 0 steps (Drop ids ∷ []));
  wait = wait ∙ ap (λ (n : ℕ). gap_after (n + 1)) are.drops ∙ sym (wait_then steps (Drop ids));
}

-- or nothing changes
pub lemmas_keep : (steps : List Step) (old new : Lemmas) (step : Step) → AreLemmas steps old → new.ids.items ≡ old.ids.items → new.drops ≡ old.drops
    → added_by (added_by [] steps) (step ∷ []) ≡ added_by [] steps → dropped_by (dropped_by 0 steps) (step ∷ []) ≡ dropped_by 0 steps →
    new.wait ≡ wait_after (dropped_by 0 steps) (wait_of steps) (step ∷ []) → AreLemmas (steps ++ step ∷ []) new
lemmas_keep steps old new step are same drops adds keeps wait = record {
  ids = ap reverse same ∙ are.ids ∙ sym adds ∙ sym (added_append [] steps (step ∷ []));
  drops = drops ∙ are.drops ∙ sym keeps ∙ sym (dropped_append 0 steps (step ∷ []));
  wait = wait ∙ sym (wait_then steps step);
}

-- what stands among the first of a list stands in the list turned round without its first
turned : (items : List ℕ) (n m id : ℕ) → n + m ≤ length items → Contains (take n items) id → Contains (drop m (reverse items)) id
turned items n m id few (k, low, is) =
    let size : length (take n items) ≡ n = length-take-le n items (omega (arith, few)) in
    let below : k < n = omega (arith, low, size) in
    let place : ℕ = length items - 1 - k - m in
    let round : m + place ≡ length items - 1 - k = omega (arith, few, below) in
    let back : length items - 1 - (m + place) ≡ k = omega (arith, few, below) in
    let read : get_or (drop m (reverse items)) place id ≡ id =
    get_or-drop m (reverse items) place id ∙ get_or-reverse items (m + place) id (omega (arith, few, below)) ∙ ap (λ (j : ℕ). get_or items j id) back ∙ sym (get_or-take n items k id below) ∙ is in
    (place, omega (arith, few, below, length-drop m (reverse items), length-reverse items), read)

-- the first lemmas may go, where the others are those that have to stay
pub first_go : (steps : List Step) (lemmas : Lemmas) (n : ℕ) (ids : List ℕ) → AreLemmas steps lemmas → n ≡ old_lemmas lemmas → All (Contains (take n lemmas.ids.items)) ids → All (MayGo steps) ids
first_go steps lemmas n ids are few first = All-weaker (Contains (take n lemmas.ids.items)) (MayGo steps) goes ids first
  where
    goes : (id : ℕ) → Contains (take n lemmas.ids.items) id → MayGo steps id
    goes id held = elim (cases_lt 0 n) [
      | inl some ↦
          subst (λ (added : List ℕ). IsOld added (dropped_by 0 steps) id) are.ids
          (subst (λ (drops : ℕ). IsOld (reverse lemmas.ids.items) drops id) are.drops (turned lemmas.ids.items n (1000 * (lemmas.drops + 1)) id (omega (arith, some, few)) held))
      | inr none ↦ absurd (omega (arith, held.1, length-take n lemmas.ids.items, none))
    ]

-- ---- a step that drops clauses

pub drops_some : (s now back : State) (old new : List Step) (ids : List ℕ) → Forgets s ids now → back ≡ now → All (MayGo old) ids → new ≡ old ++ Drop ids ∷ [] →
    wait_of old ≡ 0 → IsHalf (clause_in s.clauses) (added_by [] old) (dropped_by 0 old) ids → Drops s old back new
drops_some s now back old new ids forgets same may_go grown due half =
    record { ids = ids; log = inl (grown, due, half); may_go = may_go; forgets = subst (λ (b : State). Forgets s ids b) (sym same) forgets }

-- the number of steps that drop clauses fits a machine word
pub few_drops : (steps : List Step) (lemmas : Lemmas) → AreLemmas steps lemmas → lemmas.drops ≤ length steps
few_drops steps lemmas are = omega (arith, are.drops, dropped_few 0 steps)

-- ---- the lemmas of the first steps

first-more : (steps : List Step) (i : ℕ) (step : Step) → i < length steps → step ≡ get_or steps i step → take (i + 1) steps ≡ take i steps ++ step ∷ []
first-more steps i step low is = take_more steps i step low ∙ ap (λ (s : Step). take i steps ++ s ∷ []) (sym is)

pub first_add : (steps : List Step) (i : ℕ) (step : Step) (old new now : Lemmas) (id : ℕ) (lits : List Lit) (hints : List ℤ) → AreLemmas (take i steps) old →
    i < length steps → step ≡ get_or steps i step → step ≡ Add id lits hints
    → new.ids.items ≡ old.ids.items ++ id ∷ [] → new.drops ≡ old.drops → new.wait ≡ after_one old.wait → now ≡ new → AreLemmas (take (i + 1) steps) now
first_add steps i step old new now id lits hints are low at is ids drops wait same =
    subst (λ (l : Lemmas). AreLemmas (take (i + 1) steps) l) (sym same)
    (subst (λ (xs : List Step). AreLemmas xs new) (sym (first-more steps i step low at))
    (lemmas_add (take i steps) old new id step are ids drops (ap (λ (s : Step). added_after (added_by [] (take i steps)) s) is)
    (ap (λ (s : Step). drops_after (dropped_by 0 (take i steps)) s) is)
    (wait ∙ ap after_one are.wait ∙ sym (ap (λ (s : Step). wait_after (dropped_by 0 (take i steps)) (wait_of (take i steps)) (s ∷ [])) is))))

pub first_drop : (steps : List Step) (i : ℕ) (step : Step) (old new now : Lemmas) (ids : List ℕ) → AreLemmas (take i steps) old → i < length steps → step ≡ get_or steps i step → step ≡ Drop ids
    → new.ids.items ≡ old.ids.items → new.drops ≡ old.drops + 1 → new.wait ≡ gap_after (old.drops + 1) → now ≡ new → AreLemmas (take (i + 1) steps) now
first_drop steps i step old new now ids are low at is same more wait now_is =
    subst (λ (l : Lemmas). AreLemmas (take (i + 1) steps) l) (sym now_is)
    (subst (λ (xs : List Step). AreLemmas xs new) (sym (first-more steps i step low at ∙ ap (λ (s : Step). take i steps ++ s ∷ []) is)) (lemmas_drop (take i steps) old new ids are same more wait))

pub first_bound : (steps : List Step) (i : ℕ) (step : Step) (old now : Lemmas) (id price : ℕ) → AreLemmas (take i steps) old → i < length steps →
    step ≡ get_or steps i step → step ≡ Bound id price → now ≡ old → AreLemmas (take (i + 1) steps) now
first_bound steps i step old now id price are low at is now_is =
    subst (λ (l : Lemmas). AreLemmas (take (i + 1) steps) l) (sym now_is)
    (subst (λ (xs : List Step). AreLemmas xs old) (sym (first-more steps i step low at))
    (lemmas_keep (take i steps) old old step are refl refl (ap (λ (s : Step). added_after (added_by [] (take i steps)) s) is)
    (ap (λ (s : Step). drops_after (dropped_by 0 (take i steps)) s) is) (are.wait ∙ sym (ap (λ (s : Step). wait_after (dropped_by 0 (take i steps)) (wait_of (take i steps)) (s ∷ [])) is))))

-- ---- what is forgotten is old

some-of : (o : Option ℕ) (P : ℕ → Type 0) (id : ℕ) → IsSomeAnd o P → o ≡ Some id → P id
some-of None P id held is = absurd (none-some id is)
some-of (Some n) P id held is = subst P (same_Some n id is) held

pub old_more : (P : ℕ → Type 0) (o : Option ℕ) (ids new : List ℕ) (id : ℕ) → IsSomeAnd o P → o ≡ Some id → new ≡ ids ++ id ∷ [] → All P ids → All P new
old_more P o ids new id held is grown all = subst (All P) (sym grown) (All-append P ids (id ∷ []) all (All-cons P id [] (some-of o P id held is) (All-nil P)))

-- ---- what is kept between conflicts

-- going back to a level changes nothing that a lemma teaches
pub taught_above : (s back now : State) (old new : List Step) (level : ℕ) (r : Result Bool Memory) → back ≡ at_level s level → IfOk r (Teaches back old now new) → IfOk r (Teaches s old now new)
taught_above s back now old new level (Ok empty) is taught =
    let from : Teaches (at_level s level) old now new empty = subst (λ (b : State). Teaches b old now new empty) is taught in
    record { lits = from.lits; hints = from.hints; known = from.known; learnt = from.learnt; log = from.log; clauses = from.clauses; last = from.last; vars = from.vars; tells = from.tells }
taught_above s back now old new level (Err memory) is taught = tt

-- and a search is ready again after it
pub ready_again : (s now : State) (old new : List Step) (was learner : Learner) (r : Result Bool Memory) → IfOk r (Teaches s old now new) →
    length learner.marks ≡ 2 * s.vars + 2 → ((l : Lit) → is_marked learner.marks l ≡ false)
    → IsOrder s.vars learner.order → AreLemmas old was.lemmas → learner.lemmas.ids.items ≡ was.lemmas.ids.items ++ (s.last_id + 1) ∷ [] → learner.lemmas.drops ≡ was.lemmas.drops →
    learner.lemmas.wait ≡ after_one was.lemmas.wait → IfOk r (λ empty. IsReady now.vars new learner)
ready_again s now old new was learner (Ok empty) taught size none order are ids drops wait =
    subst (λ (v : ℕ). IsReady v new learner) (sym taught.vars) (record {
      size = size;
      none = none;
      order = order;
      lemmas = subst (λ (xs : List Step). AreLemmas xs learner.lemmas) (sym taught.log)
          (lemmas_add old was.lemmas learner.lemmas (s.last_id + 1) (Add (s.last_id + 1) taught.lits taught.hints) are ids drops refl refl (wait ∙ ap after_one are.wait));
    })
ready_again s now old new was learner (Err memory) taught size none order are ids drops wait = tt
