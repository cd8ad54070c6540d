-- What a search leaves: the steps that it appends, and what its answers say.
use Rattle.std.specs.Prelude.{◌≡◌, ℕ, ◌+◌, ◌*◌, ◌<◌, ◌≤◌, ◌^◌, ℤ, Bool, true, false, IsTrue}
use Rattle.std.specs.Prelude.{IsFalse, List, [], ◌∷◌, ◌++◌, length, max, drop, All, Contains}
use Rattle.std.specs.Prelude.{IsSome, Option, Some, None, Result, Ok, Err}
use Rattle.std.specs.List.{list_any}
use Rattle.arc_base.specs.declared.memory.Memory.{Memory}
use Rattle.cnf_types.specs.declared.literal.Lit.{Lit}
use Rattle.cnf_types.specs.Formulas.{clause_value, value_at}
use Rattle.proof_log.specs.declared.steps.Step.{Step}
use Rattle.proof_log.specs.declared.steps.Step.TheVariants.{Add, Drop, Bound}
use Rattle.proof_check.specs.Propagation.{is_among, chain_fault}
use Rattle.proof_check.specs.Knowledge.{Knowledge, after, is_empty_clause, with_clause}
use Rattle.proof_check.specs.Knowledge.{without_clauses}
use Rattle.proof_check.specs.Logs.{adds_empty}
use Rattle.sat_core.specs.declared.numbered.Numbered.{Numbered}
use Rattle.sat_core.specs.Trails.{IsOf}
use Rattle.sat_core.specs.States.{State}
use Rattle.clean_logs.specs.declared.kept.TheConstants.{KEPT_LEMMAS}
use Rattle.clean_logs.specs.Lemmas.{IsNew}
use Rattle.clean_logs.specs.CleanLogs.{added_by, dropped_by, additions}
use Rattle.sat_search.specs.declared.found.Found.{Found}
use Rattle.sat_search.specs.declared.found.Found.TheVariants.{Model, Refuted, Budget}
use Rattle.sat_search.specs.DropSteps.{wait_of, DropsInTime, DropsHalf}
use Rattle.sat_search.specs.Live.{clause_in}
use Rattle.sat_search.specs.Passes.{IsLive}

-- the steps that follow the old ones
abbrev pub appended : List Step → List Step → List Step
appended old new = drop (length old) new

-- the live clauses of what a log shows are those of the core, whose last id is no less than any of
-- the log
pub record Knows (k : Knowledge) (s : State) : Type 0 where
  pub clauses : (id : ℕ) → k.clause id ≡ clause_in s.clauses id
  pub last : k.last ≤ s.last_id

-- the steps add clauses, under the ids that follow this one, one by one, and drop clauses
abbrev pub AddsFrom : ℕ → List Step → Type 0
AddsFrom last [] = Unit {0}
AddsFrom last (Add id lits hints ∷ steps) = (id ≡ last + 1) × AddsFrom id steps
AddsFrom last (Drop ids ∷ steps) = AddsFrom last steps
AddsFrom last (Bound id price ∷ steps) = ⊥

-- the clause was added, and is none of those that the next step that drops clauses has to leave:
-- for the j-th the last KEPT_LEMMAS times j
abbrev pub IsOld : List ℕ → ℕ → ℕ → Type 0
IsOld added drops id = Contains (drop (KEPT_LEMMAS * (drops + 1)) added) id

-- the steps drop such clauses alone, after others that added these clauses and dropped so often
abbrev pub DropsOld : List ℕ → ℕ → List Step → Type 0
DropsOld added drops [] = Unit {0}
DropsOld added drops (Add id lits hints ∷ steps) = DropsOld (id ∷ added) drops steps
DropsOld added drops (Drop ids ∷ steps) =
    All (IsOld added drops) ids × DropsOld added (drops + 1) steps
DropsOld added drops (Bound id price ∷ steps) = DropsOld added drops steps

-- each hint of each step is the id of a clause that is live before the step
abbrev pub HasLiveHints : Knowledge → List Step → Type 0
HasLiveHints k [] = Unit {0}
HasLiveHints k (Add id lits hints ∷ steps) =
    All (IsLive k.clause) hints × HasLiveHints (after k (Add id lits hints)) steps
HasLiveHints k (Drop ids ∷ steps) = HasLiveHints (after k (Drop ids)) steps
HasLiveHints k (Bound id price ∷ steps) = HasLiveHints (after k (Bound id price)) steps

-- the live clauses after a step
abbrev pub live_then : (ℕ → Option (List Lit)) → Step → ℕ → Option (List Lit)
live_then live (Add id lits hints) j = with_clause live id lits j
live_then live (Drop ids) j = without_clauses live ids j
live_then live (Bound id price) j = live j

-- the live clauses after steps: those from before and those that were added, without the dropped
-- ones
abbrev pub live_after : (ℕ → Option (List Lit)) → List Step → ℕ → Option (List Lit)
live_after live [] j = live j
live_after live (s ∷ steps) j = live_after (live_then live s) steps j

-- each clause from before that is none of these stays
abbrev pub KeepsOthers : List ℕ → List Numbered → List Numbered → Type 0
KeepsOthers added old new =
    (id : ℕ) (lits : List Lit) → clause_in old id ≡ Some lits → (Contains added id → ⊥) →
    clause_in new id ≡ Some lits

-- whether the last step adds the empty clause
abbrev pub ends_empty : List Step → Bool
ends_empty [] = false
ends_empty (s ∷ []) = adds_empty s
ends_empty (s ∷ t ∷ steps) = ends_empty (t ∷ steps)

-- whether the step adds a clause
abbrev pub is_addition : Step → Bool
is_addition (Add id lits hints) = true
is_addition (Drop ids) = false
is_addition (Bound id price) = false

-- a fact for a model
abbrev pub IfModel : Found → (List Bool → Type 0) → Type 0
IfModel (Model values) P = P values
IfModel Refuted P = Unit {0}
IfModel Budget P = Unit {0}

-- there is a value for each variable, and the values make every clause true
pub record IsModelOf (s : State) (values : List Bool) : Type 0 where
  pub size : length values ≡ s.vars
  pub satisfied : All (λ c. IsTrue (clause_value (value_at values) c.lits)) s.clauses

-- the hints show the clause, name live clauses, and make it a new one where it is not empty; its
-- literals are in range
pub record IsLearnt (clause : ℕ → Option (List Lit)) (vars : ℕ) (lits : List Lit)
    (hints : List ℤ) : Type 0 where
  pub shown : chain_fault clause (is_among lits) 0 hints ≡ None
  pub live : All (IsLive clause) hints
  pub new : IsFalse (is_empty_clause lits) → IsNew clause lits hints
  pub range : All (IsOf vars) lits
  pub small : vars < 2 ^ 25

-- the ids of the live clauses are at most this one
abbrev pub HasIdsTo : ℕ → (ℕ → Option (List Lit)) → Type 0
HasIdsTo last live = (id : ℕ) → IsSome (live id) → id ≤ last

-- each step adds a clause that was learnt from the live ones, under the next id, which none of them
-- has, or drops live clauses that are old, after others that added these clauses and dropped so
-- often
abbrev pub AreLearnt : ℕ → (ℕ → Option (List Lit)) → ℕ → List ℕ → ℕ → List Step → Type 0
AreLearnt vars live last added drops [] = Unit {0}
AreLearnt vars live last added drops (Add id lits hints ∷ steps) =
    (id ≡ last + 1) × HasIdsTo last live × IsLearnt live vars lits hints ×
    AreLearnt vars (with_clause live id lits) id (id ∷ added) drops steps
AreLearnt vars live last added drops (Drop ids ∷ steps) =
    All (λ id. IsSome (live id)) ids × All (IsOld added drops) ids ×
    AreLearnt vars (without_clauses live ids) last added (drops + 1) steps
AreLearnt vars live last added drops (Bound id price ∷ steps) = ⊥

-- the log has grown by steps that were learnt from the clauses of a state, of which at most as many
-- drop clauses as add one, each when it is time and at most half of those that may go
pub record HasLearnt (s : State) (old new : List Step) : Type 0 where
  pub grown : new ≡ old ++ appended old new
  pub learnt : AreLearnt s.vars (clause_in s.clauses) s.last_id (added_by [] old) (dropped_by 0 old)
      (appended old new)
  pub few : dropped_by 0 (appended old new) ≤ additions (appended old new)
  pub in_time : DropsInTime (dropped_by 0 old) (wait_of old) (appended old new)
  pub halves : DropsHalf (clause_in s.clauses) (added_by [] old) (dropped_by 0 old)
      (appended old new)

-- a state with the clauses that are live since an earlier one, and no step added an empty one
pub record GoesOn (s : State) (old : List Step) (now : State) (new : List Step) : Type 0 where
  pub log : HasLearnt s old new
  pub vars : now.vars ≡ s.vars
  pub clauses : (id : ℕ) →
      clause_in now.clauses id ≡ live_after (clause_in s.clauses) (appended old new) id
  pub last : now.last_id ≡ s.last_id + additions (appended old new)
  pub filled : IsFalse (list_any adds_empty (appended old new))

-- how a search ends
abbrev pub Ends : State → List Step → ℕ → State → List Step → Result Found Memory → Type 0
Ends s old limit now new (Ok (Model values)) = GoesOn s old now new × IsModelOf now values
Ends s old limit now new (Ok Refuted) = IsTrue (ends_empty (appended old new))
Ends s old limit now new (Ok Budget) = GoesOn s old now new × (additions new ≡ limit)
Ends s old limit now new (Err memory) = Unit {0}

-- what a search leaves, whatever it answers
pub record Searched (s : State) (old : List Step) (limit : ℕ) (now : State) (new : List Step)
    (result : Result Found Memory) : Type 0 where
  pub log : HasLearnt s old new
  pub most : additions new ≤ limit
  pub ends : Ends s old limit now new result

-- the log gained one step, which was learnt from the state's clauses, and the clauses gained its
-- clause
pub record Teaches (s : State) (old : List Step) (now : State) (new : List Step)
    (empty : Bool) : Type 0 where
  pub lits : List Lit
  pub hints : List ℤ
  pub known : All (λ c. c.id ≤ s.last_id) s.clauses
  pub learnt : IsLearnt (clause_in s.clauses) s.vars lits hints
  pub log : new ≡ old ++ Add (s.last_id + 1) lits hints ∷ []
  pub clauses : now.clauses ≡ s.clauses ++ record { id = s.last_id + 1; lits = lits } ∷ []
  pub last : now.last_id ≡ s.last_id + 1
  pub vars : now.vars ≡ s.vars
  pub tells : empty ≡ is_empty_clause lits

-- the state gained the clause, and its trail may be another
pub record Gains (s : State) (id : ℕ) (lits : List Lit) (now : State) : Type 0 where
  pub clauses : now.clauses ≡ s.clauses ++ record { id = id; lits = lits } ∷ []
  pub last : now.last_id ≡ max s.last_id id
  pub vars : now.vars ≡ s.vars
