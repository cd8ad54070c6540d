-- What a search promises of its log: its steps are accepted, name live clauses, and are clean.
use Rattle.std.proofs.Common.{◌≡◌, ℕ, ◌+◌, ◌<◌, ◌≤◌, ◌^◌, ℤ, inl, inr, Bool, true, false, cond, IsTrue, IsFalse, IsSome}
use Rattle.std.proofs.Common.{List, [], ◌∷◌, ◌++◌, get_or, All, refl, ap, sym, ◌∙◌, subst, arith, Option, Some, None, option_map, is_none}
use Rattle.std.specs.Prelude.{nat_lt, position}
use Rattle.std.specs.List.{list_any}
use Rattle.std.proofs.lemmas.Bool.{lt-ltb, false≢true, or_left, or_right, or_parts, both_ways}
use Rattle.std.proofs.lemmas.List.Quantifiers.{position-Some}
use Rattle.std.proofs.lemmas.List.Elements.{All-cons, All-nil, All-head, All-tail, All-weaker, All-contains}
use Rattle.cnf_types.specs.declared.literal.Lit.{Lit}
use Rattle.proof_log.specs.declared.steps.Step.{Step}
use Rattle.proof_log.specs.declared.steps.Step.TheVariants.{Add, Drop, Bound}
use Rattle.proof_log.specs.Texts.{HasLine, IsId, IsLiteral, IsHint}
use Rattle.proof_check.specs.declared.faults.StepFault.TheVariants.{UnknownId}
use Rattle.proof_check.specs.Propagation.{is_among, chain_fault}
use Rattle.proof_check.specs.Knowledge.{Knowledge, step_fault, after, with_clause, without_clauses, is_empty_clause}
use Rattle.proof_check.specs.Logs.{after_all, IsAccepted, adds_empty}
use Rattle.sat_core.specs.Trails.{IsOf}
use Rattle.clean_logs.specs.Lemmas.{IsNew}
use Rattle.clean_logs.specs.CleanLogs.{IsCleanAfter, added_after, drops_after, added_by, dropped_by, additions}
use Rattle.sat_search.specs.Passes.{IsLive}
use Rattle.sat_search.specs.Searches.{ends_empty, live_after, HasLiveHints, HasIdsTo, AreLearnt, IsLearnt, IsOld}
use Rattle.sat_search.proofs.Lives.{with_some, without_some, old_added}

abbrev Live : Type 0
Live = ℕ → Option (List Lit)

-- a log's knowledge has just these live clauses, and no id above this one
pub record KnowsAll (k : Knowledge) (live : ℕ → Option (List Lit)) (last : ℕ) : Type 0 where
  pub same : (id : ℕ) → k.clause id ≡ live id
  pub most : k.last ≤ last

module _ (live : Live) (last : ℕ) (k : Knowledge) (knows : KnowsAll k live last) where
  same_clauses : k.clause ≡ live
  same_clauses = λ i j. knows.same j i

  -- a step that adds a clause
  module _ (vars id : ℕ) (lits : List Lit) (hints : List ℤ) (id_is : id ≡ last + 1) (learnt : IsLearnt live vars lits hints) where
    rising-accepted : (b : Bool) {F : Type 0} (other fault : Option F) → b ≡ true → other ≡ None → cond b other fault ≡ None
    rising-accepted true other fault e none = none
    rising-accepted false other fault e none = absurd (false≢true e)

    pub step_accepted : step_fault k (Add id lits hints) ≡ None
    step_accepted = rising-accepted (nat_lt k.last id) (chain_fault k.clause (is_among lits) 0 hints) _ (lt-ltb k.last id (omega (arith, knows.most)))
        (ap (λ (l : ℕ → Option (List Lit)). chain_fault l (is_among lits) 0 hints) same_clauses ∙ learnt.shown)

    pub step_live : All (IsLive k.clause) hints
    step_live = subst (λ (l : ℕ → Option (List Lit)). All (IsLive l) hints) (sym same_clauses) learnt.live

    pub step_new : IsFalse (is_empty_clause lits) → IsNew k.clause lits hints
    step_new filled = subst (λ (l : ℕ → Option (List Lit)). IsNew l lits hints) (sym same_clauses) (learnt.new filled)

    pub step_knows : KnowsAll (after k (Add id lits hints)) (with_clause live id lits) id
    step_knows = record { same = λ j. ap (λ (l : ℕ → Option (List Lit)). with_clause l id lits j) same_clauses; most = omega arith }

  -- a step that drops clauses
  module _ (ids : List ℕ) (there : All (λ id. IsSome (live id)) ids) where
    not-none : (o : Option (List Lit)) → IsSome o → is_none o ≡ true → ⊥
    not-none None some none = false≢true some
    not-none (Some ls) some none = false≢true none

    nowhere : (o : Option ℕ) → position (λ id. is_none (k.clause id)) ids ≡ o → option_map UnknownId o ≡ None
    nowhere None is = refl
    nowhere (Some i) is =
        let found = position-Some (λ id. is_none (k.clause id)) ids i 0 is in
        absurd (not-none (k.clause (get_or ids i 0)) (subst (λ (l : ℕ → Option (List Lit)). IsSome (l (get_or ids i 0))) (sym same_clauses) (there i 0 found.0)) found.1)

    pub drop_accepted : step_fault k (Drop ids) ≡ None
    drop_accepted = nowhere (position (λ id. is_none (k.clause id)) ids) refl

    pub drop_knows : KnowsAll (after k (Drop ids)) (without_clauses live ids) last
    drop_knows = record { same = λ j. ap (λ (l : ℕ → Option (List Lit)). without_clauses l ids j) same_clauses; most = knows.most }

-- the steps are accepted
pub learnt_accepted : (vars : ℕ) (live : Live) (last : ℕ) (added : List ℕ) (drops : ℕ) (steps : List Step) (k : Knowledge) →
    AreLearnt vars live last added drops steps → KnowsAll k live last → IsAccepted k steps
learnt_accepted vars live last added drops [] k learnt knows = tt
learnt_accepted vars live last added drops (Add id lits hints ∷ steps) k learnt knows = (
  step_accepted live last k knows vars id lits hints learnt.0 learnt.2,
  learnt_accepted vars (with_clause live id lits) id (id ∷ added) drops steps (after k (Add id lits hints)) learnt.3 (step_knows live last k knows vars id lits hints learnt.0 learnt.2),
)
learnt_accepted vars live last added drops (Drop ids ∷ steps) k learnt knows = (
  drop_accepted live last k knows ids learnt.0,
  learnt_accepted vars (without_clauses live ids) last added (drops + 1) steps (after k (Drop ids)) learnt.2 (drop_knows live last k knows ids learnt.0),
)
learnt_accepted vars live last added drops (Bound id price ∷ steps) k learnt knows = absurd learnt

-- their hints name live clauses
pub learnt_live : (vars : ℕ) (live : Live) (last : ℕ) (added : List ℕ) (drops : ℕ) (steps : List Step) (k : Knowledge) →
    AreLearnt vars live last added drops steps → KnowsAll k live last → HasLiveHints k steps
learnt_live vars live last added drops [] k learnt knows = tt
learnt_live vars live last added drops (Add id lits hints ∷ steps) k learnt knows = (
  step_live live last k knows vars id lits hints learnt.0 learnt.2,
  learnt_live vars (with_clause live id lits) id (id ∷ added) drops steps (after k (Add id lits hints)) learnt.3 (step_knows live last k knows vars id lits hints learnt.0 learnt.2),
)
learnt_live vars live last added drops (Drop ids ∷ steps) k learnt knows =
    learnt_live vars (without_clauses live ids) last added (drops + 1) steps (after k (Drop ids)) learnt.2 (drop_knows live last k knows ids learnt.0)
learnt_live vars live last added drops (Bound id price ∷ steps) k learnt knows = absurd learnt

-- what is known after them
pub learnt_knows : (vars : ℕ) (live : Live) (last : ℕ) (added : List ℕ) (drops : ℕ) (steps : List Step) (k : Knowledge) →
    AreLearnt vars live last added drops steps → KnowsAll k live last → KnowsAll (after_all k steps) (live_after live steps) (last + additions steps)
learnt_knows vars live last added drops [] k learnt knows = record { same = knows.same; most = omega (arith, knows.most) }
learnt_knows vars live last added drops (Add id lits hints ∷ steps) k learnt knows =
    let rest = learnt_knows vars (with_clause live id lits) id (id ∷ added) drops steps (after k (Add id lits hints)) learnt.3 (step_knows live last k knows vars id lits hints learnt.0 learnt.2) in
    record { same = rest.same; most = omega (arith, rest.most, learnt.0) }
learnt_knows vars live last added drops (Drop ids ∷ steps) k learnt knows =
    learnt_knows vars (without_clauses live ids) last added (drops + 1) steps (after k (Drop ids)) learnt.2 (drop_knows live last k knows ids learnt.0)
learnt_knows vars live last added drops (Bound id price ∷ steps) k learnt knows = absurd learnt

-- where none of them adds an empty clause, they are clean after what was added and dropped before
pub learnt_clean : (vars : ℕ) (live : Live) (last : ℕ) (added : List ℕ) (drops : ℕ) (steps : List Step) (k : Knowledge) →
    AreLearnt vars live last added drops steps → KnowsAll k live last → IsFalse (list_any adds_empty steps) → IsCleanAfter k added drops steps
learnt_clean vars live last added drops [] k learnt knows filled = tt
learnt_clean vars live last added drops (Add id lits hints ∷ steps) k learnt knows filled =
    let parts = or_parts (is_empty_clause lits) (list_any adds_empty steps) filled in (
      step_accepted live last k knows vars id lits hints learnt.0 learnt.2,
      (parts.0, step_new live last k knows vars id lits hints learnt.0 learnt.2 parts.0),
      learnt_clean vars (with_clause live id lits) id (id ∷ added) drops steps (after k (Add id lits hints)) learnt.3 (step_knows live last k knows vars id lits hints learnt.0 learnt.2) parts.1,
    )
learnt_clean vars live last added drops (Drop ids ∷ steps) k learnt knows filled = (
  drop_accepted live last k knows ids learnt.0,
  learnt.1,
  learnt_clean vars (without_clauses live ids) last added (drops + 1) steps (after k (Drop ids))
      learnt.2 (drop_knows live last k knows ids learnt.0) filled,
)
learnt_clean vars live last added drops (Bound id price ∷ steps) k learnt knows filled = absurd learnt

-- clean steps after clean ones
pub clean_append : (xs ys : List Step) (k : Knowledge) (added : List ℕ) (drops : ℕ) → IsCleanAfter k added drops xs →
    IsCleanAfter (after_all k xs) (added_by added xs) (dropped_by drops xs) ys → IsCleanAfter k added drops (xs ++ ys)
clean_append [] ys k added drops clean rest = rest
clean_append (s ∷ xs) ys k added drops clean rest = (clean.0, clean.1, clean_append xs ys (after k s) (added_after added s) (drops_after drops s) clean.2 rest)

-- a step that is learnt has a line
hint-line : (live : Live) (last : ℕ) (h : ℤ) → ((id : ℕ) → IsSome (live id) → 1 ≤ id) → HasIdsTo last live → last < 2 ^ 63 → IsLive live h → IsHint h
hint-line live last h least known few held =
    let low : 1 ≤ held.0 = least held.0 held.2 in
    let high : held.0 ≤ last = known held.0 held.2 in
    subst IsHint (sym held.1) (omega (arith, low), omega (arith, high, few))

pub learnt_lines : (vars : ℕ) (live : Live) (last : ℕ) (added : List ℕ) (drops : ℕ) (steps : List Step) → AreLearnt vars live last added drops steps →
    ((id : ℕ) → IsSome (live id) → 1 ≤ id) → All IsId added → last + additions steps < 2 ^ 63 → All HasLine steps
learnt_lines vars live last added drops [] learnt least lines few = All-nil HasLine
learnt_lines vars live last added drops (Add id lits hints ∷ steps) learnt least lines few =
    let range = learnt.2.range in
    let small = learnt.2.small in
    let own : IsId id = (omega (arith, learnt.0), omega (arith, learnt.0, few)) in
    let one : HasLine (Add id lits hints) = (
      own,
      All-weaker (IsOf vars) IsLiteral (λ l of. (omega (arith, of.least), omega (arith, of.most, small))) lits range,
      All-weaker (IsLive live) IsHint (λ h held. hint-line live last h least learnt.1 (omega (arith, few)) held) hints learnt.2.live,
    ) in
    All-cons HasLine (Add id lits hints) steps one
    (learnt_lines vars (with_clause live id lits) id (id ∷ added) drops steps learnt.3
    (λ j some. elim (with_some live id lits j some) [ inl is ↦ omega (arith, is, learnt.0) | inr there ↦ least j there ]) (All-cons IsId id added own lines) (omega (arith, learnt.0, few)))
learnt_lines vars live last added drops (Drop ids ∷ steps) learnt least lines few =
    let one : HasLine (Drop ids) = All-weaker (IsOld added drops) IsId (λ id old. All-contains IsId added id lines (old_added added drops id old)) ids learnt.1 in
    All-cons HasLine (Drop ids) steps one (learnt_lines vars (without_clauses live ids) last added (drops + 1) steps learnt.2 (λ j some. least j (without_some live ids j some)) lines few)
learnt_lines vars live last added drops (Bound id price ∷ steps) learnt least lines few = absurd learnt

-- the ids that steps with lines add
pub added_lines : (added : List ℕ) (steps : List Step) → All IsId added → All HasLine steps → All IsId (added_by added steps)
added_lines added [] lines has = lines
added_lines added (Add id lits hints ∷ steps) lines has =
    added_lines (id ∷ added) steps (All-cons IsId id added (All-head HasLine (Add id lits hints) steps has).0 lines) (All-tail HasLine (Add id lits hints) steps has)
added_lines added (Drop ids ∷ steps) lines has = added_lines added steps lines (All-tail HasLine (Drop ids) steps has)
added_lines added (Bound id price ∷ steps) lines has = added_lines added steps lines (All-tail HasLine (Bound id price) steps has)

-- where the last step adds the empty clause, some step does
pub ends_any : (steps : List Step) → IsTrue (ends_empty steps) → IsTrue (list_any adds_empty steps)
ends_any [] e = e
ends_any (s ∷ []) e = or_left (adds_empty s) false e
ends_any (s ∷ t ∷ steps) e = or_right (adds_empty s) (list_any adds_empty (t ∷ steps)) (ends_any (t ∷ steps) e)

pub none_ends : (steps : List Step) → IsFalse (list_any adds_empty steps) → IsTrue (ends_empty steps) → ⊥
none_ends steps filled e = both_ways (list_any adds_empty steps) filled (ends_any steps e)
