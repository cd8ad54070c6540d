-- How the log and the clauses of a core grow together, lemma by lemma, and lose clauses.
use Rattle.std.proofs.Common.{◌≡◌, ◌≢◌, ℕ, ◌+◌, ◌≤◌, Bool, true, false, ◌||◌, IsTrue, IsSome, inl, inr, List, [], ◌∷◌}
use Rattle.std.proofs.Common.{◌++◌, length, drop, All, AllPairs, refl, ap, sym, ◌∙◌, subst, arith, Option, Some, None, add-zero, ◌*◌}
use Rattle.std.specs.List.{list_any}
use Rattle.std.proofs.lemmas.Bool.{or_from, false≢true}
use Rattle.std.proofs.lemmas.List.{drop_at, append_assoc, append-nil, length-append, drop_all}
use Rattle.std.proofs.lemmas.List.Folds.{list_any-append}
use Rattle.std.proofs.lemmas.List.Quantifiers.{all_pairs_push}
use Rattle.std.proofs.lemmas.List.Elements.{All-weaker}
use Rattle.cnf_types.specs.declared.literal.Lit.{Lit}
use Rattle.proof_log.specs.declared.steps.Step.{Step}
use Rattle.proof_log.specs.declared.steps.Step.TheVariants.{Add, Drop, Bound}
use Rattle.proof_check.specs.Knowledge.{is_empty_clause, with_clause, without_clauses}
use Rattle.proof_check.specs.Logs.{adds_empty}
use Rattle.sat_core.specs.declared.numbered.Numbered.{Numbered}
use Rattle.sat_core.specs.States.{State}
use Rattle.clean_logs.specs.CleanLogs.{added_by, dropped_by, additions}
use Rattle.sat_search.specs.Live.{clause_in}
use Rattle.sat_search.specs.Orders.{KeepsClauses}
use Rattle.sat_search.specs.Searches.{appended, ends_empty, live_after, AreLearnt, HasIdsTo, IsLearnt, IsOld, HasLearnt, GoesOn, Teaches}
use Rattle.sat_search.specs.Dropping.{Drops}
use Rattle.sat_search.specs.DropSteps.{gap_after, wait_after, wait_of, is_long, DropsInTime, IsHalf, DropsHalf}
use Rattle.sat_search.proofs.Waits.{wait_append, in_time_add, in_time_drop}
use Rattle.sat_search.proofs.Steps.{additions-append}
use Rattle.sat_search.proofs.Held.{held_push}
use Rattle.sat_search.proofs.Learnt.{all_at}
use Rattle.sat_search.proofs.Lives.{live_append, added_append, dropped_append, dropped_from, without_none, ids_to, lemma_step, learnt_add, learnt_drop, halves_add, halves_drop}

-- what stands behind the old steps
pub appended_is : (old more new : List Step) → new ≡ old ++ more → appended old new ≡ more
appended_is old more new is = ap (drop (length old)) is ∙ drop_at old more (length old) refl

pub appended_none : (old : List Step) → appended old old ≡ []
appended_none old = drop_all (length old) old (omega arith)

pub appended_more : (old new newer : List Step) (steps : List Step) → new ≡ old ++ appended old new → newer ≡ new ++ steps → appended old newer ≡ appended old new ++ steps
appended_more old new newer steps grown is =
    appended_is old (appended old new ++ steps) newer (is ∙ ap (λ (xs : List Step). xs ++ steps) grown ∙ append_assoc old (appended old new) steps)

pub ends-push : (xs : List Step) (s : Step) → ends_empty (xs ++ s ∷ []) ≡ adds_empty s
ends-push [] s = refl
ends-push (x ∷ []) s = refl
ends-push (x ∷ y ∷ xs) s = ends-push (y ∷ xs) s

-- nothing was learnt yet
pub follows_start : (s : State) (old : List Step) → GoesOn s old s old
follows_start s old =
    let none = appended_none old in
    record {
      log = record {
        grown = sym (append-nil old) ∙ ap (λ (xs : List Step). old ++ xs) (sym none);
        learnt = subst (λ (xs : List Step). AreLearnt s.vars (clause_in s.clauses) s.last_id (added_by [] old) (dropped_by 0 old) xs) (sym none) tt;
        few = omega (arith, ap (λ (xs : List Step). dropped_by 0 xs) none);
        in_time = subst (λ (xs : List Step). DropsInTime (dropped_by 0 old) (wait_of old) xs) (sym none) tt;
        halves = subst (λ (xs : List Step). DropsHalf (clause_in s.clauses) (added_by [] old) (dropped_by 0 old) xs) (sym none) tt;
      };
      vars = refl;
      clauses = λ id. ap (λ (xs : List Step). live_after (clause_in s.clauses) xs id) (sym none);
      last = omega (arith, ap additions none);
      filled = ap (list_any adds_empty) none;
    }

-- a lemma is learnt
module _ (s now dived next : State) (old new newer : List Step) (empty : Bool) (follows : GoesOn s old now new) (kept : KeepsClauses now dived) (taught : Teaches dived new next newer empty) where
  abbrev step : List Step
  step = lemma_step (dived.last_id + 1) taught.lits taught.hints

  -- the clauses that are live before it
  abbrev live : ℕ → Option (List Lit)
  live = live_after (clause_in s.clauses) (appended old new)

  more_is : appended old newer ≡ appended old new ++ step
  more_is = appended_more old new newer step follows.log.grown taught.log

  live_is : clause_in dived.clauses ≡ live
  live_is = λ i j. (ap (λ (cs : List Numbered). clause_in cs j) kept.clauses ∙ follows.clauses j) i

  id_is : dived.last_id + 1 ≡ s.last_id + additions (appended old new) + 1
  id_is = omega (arith, kept.last_id, follows.last)

  learnt_from : IsLearnt live s.vars taught.lits taught.hints
  learnt_from = subst (λ (v : ℕ). IsLearnt live v taught.lits taught.hints) (kept.vars ∙ follows.vars)
      (subst (λ (l : ℕ → Option (List Lit)). IsLearnt l dived.vars taught.lits taught.hints) live_is taught.learnt)

  known_from : HasIdsTo (s.last_id + additions (appended old new)) live
  known_from = subst (λ (l : ℕ → Option (List Lit)). HasIdsTo (s.last_id + additions (appended old new)) l) live_is
      (λ id some. omega (arith, ids_to dived.clauses dived.last_id taught.known id some, kept.last_id, follows.last))

  one_more : additions (appended old newer) ≡ additions (appended old new) + 1
  one_more = ap additions more_is ∙ additions-append (appended old new) step

  same_drops : dropped_by 0 (appended old newer) ≡ dropped_by 0 (appended old new)
  same_drops = ap (dropped_by 0) more_is ∙ dropped_append 0 (appended old new) step

  -- fewer steps drop clauses than add one
  pub taught_few : dropped_by 0 (appended old newer) + 1 ≤ additions (appended old newer)
  taught_few = omega (arith, one_more, same_drops, follows.log.few)

  pub taught_log : HasLearnt s old newer
  taught_log = record {
    grown = taught.log ∙ ap (λ (xs : List Step). xs ++ step) follows.log.grown ∙ append_assoc old (appended old new) step ∙ ap (λ (xs : List Step). old ++ xs) (sym more_is);
    learnt = subst (λ (xs : List Step). AreLearnt s.vars (clause_in s.clauses) s.last_id (added_by [] old) (dropped_by 0 old) xs)
        (sym (more_is ∙ ap (λ (n : ℕ). appended old new ++ lemma_step n taught.lits taught.hints) id_is))
        (learnt_add s.vars (clause_in s.clauses) s.last_id (added_by [] old) (dropped_by 0 old) (appended old new) taught.lits taught.hints follows.log.learnt known_from learnt_from);
    few = omega (arith, taught_few);
    in_time = subst (λ (xs : List Step). DropsInTime (dropped_by 0 old) (wait_of old) xs) (sym more_is)
        (in_time_add (dropped_by 0 old) (wait_of old) (appended old new) (dived.last_id + 1) taught.lits taught.hints follows.log.in_time);
    halves = subst (λ (xs : List Step). DropsHalf (clause_in s.clauses) (added_by [] old) (dropped_by 0 old) xs) (sym more_is)
        (halves_add (clause_in s.clauses) (added_by [] old) (dropped_by 0 old) (appended old new) (dived.last_id + 1) taught.lits taught.hints follows.log.halves);
  }

  pub taught_more : additions newer ≡ additions new + 1
  taught_more = ap additions taught.log ∙ additions-append new step

  pub taught_empty : empty ≡ true → IsTrue (ends_empty (appended old newer))
  taught_empty e = ap ends_empty more_is ∙ ends-push (appended old new) (Add (dived.last_id + 1) taught.lits taught.hints) ∙ sym taught.tells ∙ e

  pub follows_taught : empty ≡ false → GoesOn s old next newer
  follows_taught e = record {
    log = taught_log;
    vars = taught.vars ∙ kept.vars ∙ follows.vars;
    clauses = λ j.
        ap (λ (cs : List Numbered). clause_in cs j) taught.clauses
        ∙ held_push dived.clauses (dived.last_id + 1) taught.lits (λ k c at e. absurd (omega (arith, all_at (λ (d : Numbered). d.id ≤ dived.last_id) dived.clauses k c taught.known at, e))) j
        ∙ ap (λ (l : ℕ → Option (List Lit)). with_clause l (dived.last_id + 1) taught.lits j) live_is
        ∙ ap (λ (l : ℕ → Option (List Lit)). l j) (sym (live_append (clause_in s.clauses) (appended old new) step))
        ∙ ap (λ (xs : List Step). live_after (clause_in s.clauses) xs j) (sym more_is);
    last = omega (arith, taught.last, kept.last_id, follows.last, one_more);
    filled = ap (list_any adds_empty) more_is ∙ list_any-append adds_empty (appended old new) step
        ∙ or_from (list_any adds_empty (appended old new)) (is_empty_clause taught.lits || false) follows.filled (or_from (is_empty_clause taught.lits) false (sym taught.tells ∙ e) refl);
  }

-- the ids of the clauses still differ
pub taught_different : (s now : State) (old new : List Step) (empty : Bool) → AllPairs (λ c d. c.id ≢ d.id) s.clauses → Teaches s old now new empty → AllPairs (λ c d. c.id ≢ d.id) now.clauses
taught_different s now old new empty different taught =
    subst (λ (cs : List Numbered). AllPairs (λ c d. c.id ≢ d.id) cs) (sym taught.clauses)
    (all_pairs_push (λ c d. c.id ≢ d.id) s.clauses (record { id = s.last_id + 1; lits = taught.lits }) different
    (All-weaker (λ (c : Numbered). c.id ≤ s.last_id) (λ c. c.id ≢ s.last_id + 1) (λ c low e. omega (arith, low, e)) s.clauses taught.known))

long-there : (o : Option (List Lit)) → IsTrue (is_long o) → IsSome o
long-there None long = absurd (false≢true long)
long-there (Some lits) long = refl

-- clauses are dropped
module _ (s now next : State) (old new newer : List Step) (follows : GoesOn s old now new) (few : dropped_by 0 (appended old new) + 1 ≤ additions (appended old new))
    (drops : Drops now new next newer) where
  abbrev left : ℕ → Option (List Lit)
  left = live_after (clause_in s.clauses) (appended old new)

  left_is : clause_in now.clauses ≡ left
  left_is = λ i j. follows.clauses j i

  there : All (λ id. IsSome (left id)) drops.ids
  there = All-weaker (λ (id : ℕ). IsTrue (is_long (left id))) (λ id. IsSome (left id)) (λ id long. long-there (left id) long) drops.ids
      (subst (λ (l : ℕ → Option (List Lit)). All (λ id. IsTrue (is_long (l id))) drops.ids) left_is drops.forgets.long)

  added_is : added_by [] new ≡ added_by (added_by [] old) (appended old new)
  added_is = ap (added_by []) follows.log.grown ∙ added_append [] old (appended old new)

  drops_is : dropped_by 0 new ≡ dropped_by (dropped_by 0 old) (appended old new)
  drops_is = ap (dropped_by 0) follows.log.grown ∙ dropped_append 0 old (appended old new)

  may_go : All (IsOld (added_by (added_by [] old) (appended old new)) (dropped_by (dropped_by 0 old) (appended old new))) drops.ids
  may_go = subst (λ (xs : List ℕ). All (IsOld xs (dropped_by (dropped_by 0 old) (appended old new))) drops.ids) added_is
      (subst (λ (n : ℕ). All (IsOld (added_by [] new) n) drops.ids) drops_is drops.may_go)

  drop_clauses : (j : ℕ) → clause_in next.clauses j ≡ without_clauses left drops.ids j
  drop_clauses j = drops.forgets.clauses j ∙ ap (λ (l : ℕ → Option (List Lit)). without_clauses l drops.ids j) left_is

  module _ (is : newer ≡ new ++ Drop drops.ids ∷ []) (due : wait_of new ≡ 0) (half : IsHalf (clause_in now.clauses) (added_by [] new) (dropped_by 0 new) drops.ids) where
    abbrev drop_step : List Step
    drop_step = Drop drops.ids ∷ []

    drop_is : appended old newer ≡ appended old new ++ drop_step
    drop_is = appended_more old new newer drop_step follows.log.grown is

    same_additions : additions (appended old newer) ≡ additions (appended old new)
    same_additions = ap additions drop_is ∙ additions-append (appended old new) drop_step ∙ add-zero (additions (appended old new))

    one_drop : dropped_by 0 (appended old newer) ≡ dropped_by 0 (appended old new) + 1
    one_drop = ap (dropped_by 0) drop_is ∙ dropped_append 0 (appended old new) drop_step

    still_due : wait_after (dropped_by 0 old) (wait_of old) (appended old new) ≡ 0
    still_due = sym (wait_append 0 (gap_after 0) old (appended old new)) ∙ ap wait_of (sym follows.log.grown) ∙ due

    still_half : IsHalf left (added_by (added_by [] old) (appended old new)) (dropped_by (dropped_by 0 old) (appended old new)) drops.ids
    still_half = subst (λ (l : ℕ → Option (List Lit)). IsHalf l (added_by (added_by [] old) (appended old new)) (dropped_by (dropped_by 0 old) (appended old new)) drops.ids) left_is
        (subst (λ (xs : List ℕ). IsHalf (clause_in now.clauses) xs (dropped_by (dropped_by 0 old) (appended old new)) drops.ids) added_is
        (subst (λ (n : ℕ). IsHalf (clause_in now.clauses) (added_by [] new) n drops.ids) drops_is half))

    dropped_log : HasLearnt s old newer
    dropped_log = record {
      grown = is ∙ ap (λ (xs : List Step). xs ++ drop_step) follows.log.grown ∙ append_assoc old (appended old new) drop_step ∙ ap (λ (xs : List Step). old ++ xs) (sym drop_is);
      learnt = subst (λ (xs : List Step). AreLearnt s.vars (clause_in s.clauses) s.last_id (added_by [] old) (dropped_by 0 old) xs) (sym drop_is)
          (learnt_drop s.vars (clause_in s.clauses) s.last_id (added_by [] old) (dropped_by 0 old) (appended old new) drops.ids follows.log.learnt there may_go);
      few = omega (arith, same_additions, one_drop, few);
      in_time = subst (λ (xs : List Step). DropsInTime (dropped_by 0 old) (wait_of old) xs) (sym drop_is)
          (in_time_drop (dropped_by 0 old) (wait_of old) (appended old new) drops.ids follows.log.in_time still_due);
      halves = subst (λ (xs : List Step). DropsHalf (clause_in s.clauses) (added_by [] old) (dropped_by 0 old) xs) (sym drop_is)
          (halves_drop (clause_in s.clauses) (added_by [] old) (dropped_by 0 old) (appended old new) drops.ids follows.log.halves still_half);
    }

    follows_step : GoesOn s old next newer
    follows_step = record {
      log = dropped_log;
      vars = drops.forgets.vars ∙ follows.vars;
      clauses = λ j. drop_clauses j
          ∙ ap (λ (l : ℕ → Option (List Lit)). l j) (sym (live_append (clause_in s.clauses) (appended old new) drop_step))
          ∙ ap (λ (xs : List Step). live_after (clause_in s.clauses) xs j) (sym drop_is);
      last = omega (arith, drops.forgets.last_id, follows.last, same_additions);
      filled = ap (list_any adds_empty) drop_is ∙ list_any-append adds_empty (appended old new) drop_step ∙ or_from (list_any adds_empty (appended old new)) false follows.filled refl;
    }

  follows_none : newer ≡ new → drops.ids ≡ [] → GoesOn s old next newer
  follows_none same none = subst (λ (xs : List Step). GoesOn s old next xs) (sym same) (record {
    log = follows.log;
    vars = drops.forgets.vars ∙ follows.vars;
    clauses = λ j. drop_clauses j ∙ without_none left drops.ids j none;
    last = drops.forgets.last_id ∙ follows.last;
    filled = follows.filled;
  })

  pub follows_dropped : GoesOn s old next newer
  follows_dropped = elim drops.log [
    | inl is ↦ follows_step is.0 is.1 is.2
    | inr same ↦ follows_none same.0 same.1
  ]

  -- no clause is added
  pub dropped_additions : additions newer ≡ additions new
  dropped_additions = elim drops.log [
    | inl is ↦ ap additions is.0 ∙ additions-append new (Drop drops.ids ∷ []) ∙ add-zero (additions new)
    | inr same ↦ ap additions same.0
  ]

-- the same of equal steps
pub log_same : (s : State) (old new newer : List Step) → HasLearnt s old new → newer ≡ new → HasLearnt s old newer
log_same s old new newer log same = subst (λ (xs : List Step). HasLearnt s old xs) (sym same) log

-- how many clauses the log adds
pub log_additions : (s : State) (old new : List Step) → HasLearnt s old new → additions new ≡ additions old + additions (appended old new)
log_additions s old new log = ap additions log.grown ∙ additions-append old (appended old new)

learnt-length : (vars : ℕ) (live : ℕ → Option (List Lit)) (last : ℕ) (added : List ℕ) (drops : ℕ) (more : List Step) →
    AreLearnt vars live last added drops more → length more ≡ additions more + dropped_by 0 more
learnt-length vars live last added drops [] learnt = refl
learnt-length vars live last added drops (Add id lits hints ∷ more) learnt = omega (arith, learnt-length vars (with_clause live id lits) id (id ∷ added) drops more learnt.3)
learnt-length vars live last added drops (Drop ids ∷ more) learnt = omega (arith, learnt-length vars (without_clauses live ids) last added (drops + 1) more learnt.2, dropped_from (0 + 1) more)
learnt-length vars live last added drops (Bound id price ∷ more) learnt = absurd learnt

-- how long it is
pub log_short : (s : State) (old new : List Step) → HasLearnt s old new → length new ≤ length old + 2 * additions (appended old new)
log_short s old new log =
    let long : length new ≡ length old + length (appended old new) = ap (λ (xs : List Step). length xs) log.grown ∙ length-append old (appended old new) in
    omega (arith, long, log.few, learnt-length s.vars (clause_in s.clauses) s.last_id (added_by [] old) (dropped_by 0 old) (appended old new) log.learnt)
