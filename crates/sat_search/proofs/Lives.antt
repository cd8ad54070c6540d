-- Which clauses are live after steps, and which steps were learnt.
use Rattle.std.proofs.Common.{◌≡◌, ◌≢◌, ℕ, zero, suc, ◌+◌, ◌*◌, ◌<◌, ◌≤◌, ◌==◌, ℤ, Bool, true, false, cond, IsTrue, IsSome, ◌⊎◌, inl}
use Rattle.std.proofs.Common.{inr, List, [], ◌∷◌, ◌++◌, length, drop, All, Contains, find, refl, ap, ◌∙◌, subst, arith, Option, Some, None, option_map}
use Rattle.std.specs.List.{list_any}
use Rattle.std.proofs.lemmas.Bool.{eq-eqb, ne_eqb, eqb-true, false≢true}
use Rattle.std.proofs.lemmas.Option.{none-some}
use Rattle.std.proofs.lemmas.List.Folds.{list_any_none}
use Rattle.std.proofs.lemmas.List.Elements.{All-cons, All-nil, All-weaker, Contains-append_right}
use Rattle.cnf_types.specs.declared.literal.Lit.{Lit}
use Rattle.proof_log.specs.declared.steps.Step.{Step}
use Rattle.proof_log.specs.declared.steps.Step.TheVariants.{Add, Drop, Bound}
use Rattle.proof_check.specs.Knowledge.{with_clause, without_clauses}
use Rattle.sat_core.specs.declared.numbered.Numbered.{Numbered}
use Rattle.clean_logs.specs.CleanLogs.{added_after, drops_after, added_by, dropped_by, additions}
use Rattle.sat_search.specs.Live.{clause_in}
use Rattle.sat_search.specs.DropSteps.{is_long, IsHalf, DropsHalf}
use Rattle.sat_search.specs.Searches.{AddsFrom, IsOld, DropsOld, IsLearnt, HasIdsTo, AreLearnt, live_then, live_after}
use Rattle.sat_search.proofs.Held.{at_held}
use Rattle.sat_search.proofs.Learnt.{all_at}

abbrev Live : Type 0
Live = ℕ → Option (List Lit)

-- ---- steps after steps

pub live_append : (live : Live) (xs ys : List Step) → live_after live (xs ++ ys) ≡ live_after (live_after live xs) ys
live_append live [] ys = refl
live_append live (s ∷ xs) ys = live_append (live_then live s) xs ys

pub added_append : (added : List ℕ) (xs ys : List Step) → added_by added (xs ++ ys) ≡ added_by (added_by added xs) ys
added_append added [] ys = refl
added_append added (s ∷ xs) ys = added_append (added_after added s) xs ys

pub dropped_append : (drops : ℕ) (xs ys : List Step) → dropped_by drops (xs ++ ys) ≡ dropped_by (dropped_by drops xs) ys
dropped_append drops [] ys = refl
dropped_append drops (s ∷ xs) ys = dropped_append (drops_after drops s) xs ys

pub dropped_few : (drops : ℕ) (steps : List Step) → dropped_by drops steps ≤ drops + length steps
dropped_few drops [] = omega arith
dropped_few drops (Add id lits hints ∷ steps) = omega (arith, dropped_few drops steps)
dropped_few drops (Drop ids ∷ steps) = omega (arith, dropped_few (drops + 1) steps)
dropped_few drops (Bound id price ∷ steps) = omega (arith, dropped_few drops steps)

pub dropped_from : (drops : ℕ) (steps : List Step) → dropped_by drops steps ≡ drops + dropped_by 0 steps
dropped_from drops [] = omega arith
dropped_from drops (Add id lits hints ∷ steps) = dropped_from drops steps
dropped_from drops (Drop ids ∷ steps) = omega (arith, dropped_from (drops + 1) steps, dropped_from (0 + 1) steps)
dropped_from drops (Bound id price ∷ steps) = dropped_from drops steps

-- ---- clauses without some

pub without_none : (live : Live) (ids : List ℕ) (id : ℕ) → ids ≡ [] → without_clauses live ids id ≡ live id
without_none live ids id is = ap (λ (is : List ℕ). without_clauses live is id) is

left-out : (b : Bool) (o : Option (List Lit)) → IsSome (cond b None o) → IsSome o
left-out true o some = absurd (false≢true some)
left-out false o some = some

pub without_some : (live : Live) (ids : List ℕ) (id : ℕ) → IsSome (without_clauses live ids id) → IsSome (live id)
without_some live ids id some = left-out (list_any (λ (d : ℕ). d == id) ids) (live id) some

long-out : (b : Bool) (o : Option (List Lit)) → IsTrue (is_long (cond b None o)) → IsTrue (is_long o)
long-out true o long = absurd (false≢true long)
long-out false o long = long

pub without_long : (live : Live) (ids : List ℕ) (id : ℕ) → IsTrue (is_long (without_clauses live ids id)) → IsTrue (is_long (live id))
without_long live ids id long = long-out (list_any (λ (d : ℕ). d == id) ids) (live id) long

pub without_other : (live : Live) (ids : List ℕ) (id : ℕ) → All (λ d. d ≢ id) ids → without_clauses live ids id ≡ live id
without_other live ids id other =
    let none : list_any (λ (d : ℕ). d == id) ids ≡ false = list_any_none (λ (d : ℕ). d == id) ids (All-weaker (λ (d : ℕ). d ≢ id) (λ d. (d == id) ≡ false) (λ d ne. ne_eqb d id ne) ids other) in
    ap (λ (b : Bool). cond b None (live id)) none

pub with_other : (live : Live) (id : ℕ) (lits : List Lit) (j : ℕ) → id ≢ j → with_clause live id lits j ≡ live j
with_other live id lits j other = ap (λ (b : Bool). cond b (Some lits) (live j)) (ne_eqb id j other)

with-cases : (b : Bool) (lits : List Lit) (o : Option (List Lit)) → IsSome (cond b (Some lits) o) → IsTrue b ⊎ IsSome o
with-cases true lits o some = inl refl
with-cases false lits o some = inr some

pub with_some : (live : Live) (id : ℕ) (lits : List Lit) (j : ℕ) → IsSome (with_clause live id lits j) → (id ≡ j) ⊎ IsSome (live j)
with_some live id lits j some = elim (with-cases (id == j) lits (live j) some) [
  | inl is ↦ inl (eqb-true id j is)
  | inr there ↦ inr there
]

-- ---- the ids of a list of clauses

ids-to : (clauses : List Numbered) (last : ℕ) → All (λ c. c.id ≤ last) clauses → (id : ℕ) (o : Option (List Lit)) → clause_in clauses id ≡ o → IsSome o → id ≤ last
ids-to clauses last known id None is some = absurd (false≢true some)
ids-to clauses last known id (Some lits) is some =
    let held = at_held clauses id lits is in
    omega (arith, all_at (λ (c : Numbered). c.id ≤ last) clauses held.place held.clause known held.at, held.id_is)

pub ids_to : (clauses : List Numbered) (last : ℕ) → All (λ c. c.id ≤ last) clauses → HasIdsTo last (clause_in clauses)
ids_to clauses last known id some = ids-to clauses last known id (clause_in clauses id) refl some

ids-from : (clauses : List Numbered) → All (λ c. 1 ≤ c.id) clauses → (id : ℕ) (o : Option (List Lit)) → clause_in clauses id ≡ o → IsSome o → 1 ≤ id
ids-from clauses least id None is some = absurd (false≢true some)
ids-from clauses least id (Some lits) is some =
    let held = at_held clauses id lits is in
    omega (arith, all_at (λ (c : Numbered). 1 ≤ c.id) clauses held.place held.clause least held.at, held.id_is)

pub ids_from : (clauses : List Numbered) → All (λ c. 1 ≤ c.id) clauses → (id : ℕ) → IsSome (clause_in clauses id) → 1 ≤ id
ids_from clauses least id some = ids-from clauses least id (clause_in clauses id) refl some

there : (c : Numbered) (clauses : List Numbered) (id : ℕ) (b : Bool) → IsSome (clause_in clauses id) →
    IsSome (option_map (λ (d : Numbered). d.lits) (cond b (Some c) (find (λ (d : Numbered). d.id == id) clauses)))
there c clauses id true some = refl
there c clauses id false some = some

first-some : (c : Numbered) (rest : Option Numbered) (b : Bool) → b ≡ true → IsSome (option_map (λ (d : Numbered). d.lits) (cond b (Some c) rest))
first-some c rest true is = refl
first-some c rest false is = absurd (false≢true is)

-- what is true of the ids of live clauses is true of those of all clauses
pub ids_of_all : (P : ℕ → Type 0) (clauses : List Numbered) → ((id : ℕ) → IsSome (clause_in clauses id) → P id) → All (λ c. P c.id) clauses
ids_of_all P [] live = All-nil _
ids_of_all P (c ∷ clauses) live =
    let here : IsSome (clause_in (c ∷ clauses) c.id) = first-some c (find (λ (d : Numbered). d.id == c.id) clauses) (c.id == c.id) (eq-eqb c.id c.id refl) in
    All-cons (λ (d : Numbered). P d.id) c clauses (live c.id here) (ids_of_all P clauses (λ id some. live id (there c clauses id (c.id == id) some)))

-- a clause that is live after steps was so before, or the steps added it
pub live_since : (live : Live) (last : ℕ) (steps : List Step) (id : ℕ) → AddsFrom last steps → IsSome (live_after live steps id) → IsSome (live id) ⊎ ((last < id) × (id ≤ last + additions steps))
live_since live last [] id adds some = inl some
live_since live last (Add own lits hints ∷ steps) id adds some = elim (live_since (with_clause live own lits) own steps id adds.1 some) [
  | inl before ↦ elim (with_some live own lits id before) [
    | inl is ↦ inr (omega (arith, is, adds.0), omega (arith, is, adds.0))
    | inr there ↦ inl there
  ]
  | inr after ↦ inr (omega (arith, after.0, adds.0), omega (arith, after.1, adds.0))
]
live_since live last (Drop ids ∷ steps) id adds some = elim (live_since (without_clauses live ids) last steps id adds some) [
  | inl before ↦ inl (without_some live ids id before)
  | inr after ↦ inr after
]
live_since live last (Bound own price ∷ steps) id adds some = absurd adds

-- the ids that steps add, after others
pub added_since : (added : List ℕ) (last : ℕ) (steps : List Step) → AddsFrom last steps → All (λ id. id ≤ last) added → All (λ id. id ≤ last + additions steps) (added_by added steps)
added_since added last [] adds known = All-weaker (λ id. id ≤ last) (λ id. id ≤ last + 0) (λ id h. omega (arith, h)) added known
added_since added last (Add id lits hints ∷ steps) adds known =
    All-weaker (λ j. j ≤ id + additions steps) (λ j. j ≤ last + suc (additions steps)) (λ j h. omega (arith, h, adds.0)) (added_by (id ∷ added) steps)
    (added_since (id ∷ added) id steps adds.1 (All-cons (λ j. j ≤ id) id added (omega arith) (All-weaker (λ j. j ≤ last) (λ j. j ≤ id) (λ j h. omega (arith, h, adds.0)) added known)))
added_since added last (Drop ids ∷ steps) adds known = added_since added last steps adds known
added_since added last (Bound id price ∷ steps) adds known = absurd adds

contains-cons : (x y : ℕ) (xs : List ℕ) → Contains (x ∷ xs) y → (x ≡ y) ⊎ Contains xs y
contains-cons x y xs (zero, low, is) = inl is
contains-cons x y xs (suc k, low, is) = inr (k, omega (arith, low), is)

pub contains_later : (x y : ℕ) (xs : List ℕ) → Contains xs y → Contains (x ∷ xs) y
contains_later x y xs held = Contains-append_right (x ∷ []) xs y held

-- what stands in it was there, or has a later id
pub added_cases : (added : List ℕ) (last : ℕ) (steps : List Step) (id : ℕ) → AddsFrom last steps → Contains (added_by added steps) id → Contains added id ⊎ (last < id)
added_cases added last [] id adds held = inl held
added_cases added last (Add own lits hints ∷ steps) id adds held = elim (added_cases (own ∷ added) own steps id adds.1 held) [
  | inl before ↦ elim (contains-cons own id added before) [
    | inl is ↦ inr (omega (arith, is, adds.0))
    | inr there ↦ inl there
  ]
  | inr after ↦ inr (omega (arith, after, adds.0))
]
added_cases added last (Drop ids ∷ steps) id adds held = added_cases added last steps id adds held
added_cases added last (Bound own price ∷ steps) id adds held = absurd adds

-- ---- one step more

-- the step of a lemma
abbrev pub lemma_step : ℕ → List Lit → List ℤ → List Step
lemma_step id lits hints = Add id lits hints ∷ []

pub learnt_add : (vars : ℕ) (live : Live) (last : ℕ) (added : List ℕ) (drops : ℕ) (more : List Step) (lits : List Lit) (hints : List ℤ) → AreLearnt vars live last added drops more
    → HasIdsTo (last + additions more) (live_after live more) → IsLearnt (live_after live more) vars lits hints →
    AreLearnt vars live last added drops (more ++ lemma_step (last + additions more + 1) lits hints)
learnt_add vars live last added drops [] lits hints learnt known new = (omega arith, (λ id some. omega (arith, known id some)), new, tt)
learnt_add vars live last added drops (Add id ls hs ∷ more) lits hints learnt known new =
    let rest = learnt_add vars (with_clause live id ls) id (id ∷ added) drops more lits hints learnt.3 (λ j some. omega (arith, known j some, learnt.0)) new in
    let number : id + additions more + 1 ≡ last + additions (Add id ls hs ∷ more) + 1 = omega (arith, learnt.0) in
    (learnt.0, learnt.1, learnt.2, subst (λ (n : ℕ). AreLearnt vars (with_clause live id ls) id (id ∷ added) drops (more ++ lemma_step n lits hints)) number rest)
learnt_add vars live last added drops (Drop ids ∷ more) lits hints learnt known new =
    (learnt.0, learnt.1, learnt_add vars (without_clauses live ids) last added (drops + 1) more lits hints learnt.2 known new)
learnt_add vars live last added drops (Bound id price ∷ more) lits hints learnt known new = absurd learnt

pub learnt_drop : (vars : ℕ) (live : Live) (last : ℕ) (added : List ℕ) (drops : ℕ) (more : List Step) (ids : List ℕ) → AreLearnt vars live last added drops more
    → All (λ id. IsSome (live_after live more id)) ids → All (IsOld (added_by added more) (dropped_by drops more)) ids → AreLearnt vars live last added drops (more ++ Drop ids ∷ [])
learnt_drop vars live last added drops [] ids learnt there old = (there, old, tt)
learnt_drop vars live last added drops (Add id ls hs ∷ more) ids learnt there old =
    (learnt.0, learnt.1, learnt.2, learnt_drop vars (with_clause live id ls) id (id ∷ added) drops more ids learnt.3 there old)
learnt_drop vars live last added drops (Drop js ∷ more) ids learnt there old =
    (learnt.0, learnt.1, learnt_drop vars (without_clauses live js) last added (drops + 1) more ids learnt.2 there old)
learnt_drop vars live last added drops (Bound id price ∷ more) ids learnt there old = absurd learnt

-- a clause is added, or at most half of those that may go are dropped
pub halves_add : (live : Live) (added : List ℕ) (drops : ℕ) (xs : List Step) (id : ℕ) (lits : List Lit) (hints : List ℤ) → DropsHalf live added drops xs →
    DropsHalf live added drops (xs ++ Add id lits hints ∷ [])
halves_add live added drops [] id lits hints halves = tt
halves_add live added drops (Add other of by ∷ xs) id lits hints halves = halves_add (with_clause live other of) (other ∷ added) drops xs id lits hints halves
halves_add live added drops (Drop ids ∷ xs) id lits hints halves = (halves.0, halves_add (without_clauses live ids) added (drops + 1) xs id lits hints halves.1)
halves_add live added drops (Bound other price ∷ xs) id lits hints halves = halves_add live added drops xs id lits hints halves

pub halves_drop : (live : Live) (added : List ℕ) (drops : ℕ) (xs : List Step) (gone : List ℕ) → DropsHalf live added drops xs →
    IsHalf (live_after live xs) (added_by added xs) (dropped_by drops xs) gone → DropsHalf live added drops (xs ++ Drop gone ∷ [])
halves_drop live added drops [] gone halves half = (half, tt)
halves_drop live added drops (Add id lits hints ∷ xs) gone halves half = halves_drop (with_clause live id lits) (id ∷ added) drops xs gone halves half
halves_drop live added drops (Drop ids ∷ xs) gone halves half = (halves.0, halves_drop (without_clauses live ids) added (drops + 1) xs gone halves.1 half)
halves_drop live added drops (Bound id price ∷ xs) gone halves half = halves_drop live added drops xs gone halves half

-- ---- what was learnt

pub learnt_ids : (vars : ℕ) (live : Live) (last : ℕ) (added : List ℕ) (drops : ℕ) (steps : List Step) → AreLearnt vars live last added drops steps → AddsFrom last steps
learnt_ids vars live last added drops [] learnt = tt
learnt_ids vars live last added drops (Add id lits hints ∷ steps) learnt = (learnt.0, learnt_ids vars (with_clause live id lits) id (id ∷ added) drops steps learnt.3)
learnt_ids vars live last added drops (Drop ids ∷ steps) learnt = learnt_ids vars (without_clauses live ids) last added (drops + 1) steps learnt.2
learnt_ids vars live last added drops (Bound id price ∷ steps) learnt = absurd learnt

pub learnt_old : (vars : ℕ) (live : Live) (last : ℕ) (added : List ℕ) (drops : ℕ) (steps : List Step) → AreLearnt vars live last added drops steps → DropsOld added drops steps
learnt_old vars live last added drops [] learnt = tt
learnt_old vars live last added drops (Add id lits hints ∷ steps) learnt = learnt_old vars (with_clause live id lits) id (id ∷ added) drops steps learnt.3
learnt_old vars live last added drops (Drop ids ∷ steps) learnt = (learnt.1, learnt_old vars (without_clauses live ids) last added (drops + 1) steps learnt.2)
learnt_old vars live last added drops (Bound id price ∷ steps) learnt = absurd learnt

contains-drop : (n : ℕ) (xs : List ℕ) (x : ℕ) → Contains (drop n xs) x → Contains xs x
contains-drop zero xs x held = held
contains-drop (suc n) [] x held = held
contains-drop (suc n) (y ∷ xs) x held = contains_later y x xs (contains-drop n xs x held)

-- a clause that is old was added
pub old_added : (added : List ℕ) (drops id : ℕ) → IsOld added drops id → Contains added id
old_added added drops id old = contains-drop (1000 * (drops + 1)) added id old

pub some_is : (o : Option (List Lit)) (lits : List Lit) → o ≡ Some lits → IsSome o
some_is None lits is = absurd (none-some lits is)
some_is (Some ls) lits is = refl

-- a clause that was not added stays
pub learnt_others : (vars : ℕ) (live : Live) (last : ℕ) (added : List ℕ) (drops : ℕ) (steps : List Step) (id : ℕ) (lits : List Lit) →
    AreLearnt vars live last added drops steps → live id ≡ Some lits → (Contains added id → ⊥) → live_after live steps id ≡ Some lits
learnt_others vars live last added drops [] id lits learnt is other = is
learnt_others vars live last added drops (Add own ls hs ∷ steps) id lits learnt is other =
    let low : id ≤ last = learnt.1 id (some_is (live id) lits is) in
    learnt_others vars (with_clause live own ls) own (own ∷ added) drops steps id lits learnt.3 (with_other live own ls id (λ e. omega (arith, e, low, learnt.0)) ∙ is)
    (λ held. elim (contains-cons own id added held) [ inl e ↦ omega (arith, e, low, learnt.0) | inr there ↦ other there ])
learnt_others vars live last added drops (Drop ids ∷ steps) id lits learnt is other =
    let kept : All (λ d. d ≢ id) ids = All-weaker (IsOld added drops) (λ d. d ≢ id) (λ d old e. other (subst (Contains added) e (old_added added drops d old))) ids learnt.1 in
    learnt_others vars (without_clauses live ids) last added (drops + 1) steps id lits learnt.2 (without_other live ids id kept ∙ is) other
learnt_others vars live last added drops (Bound own price ∷ steps) id lits learnt is other = absurd learnt
