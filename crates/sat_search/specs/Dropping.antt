-- What drop steps leave: which lemmas a log has, which may be dropped, and what a step that drops
-- some does.
use Rattle.std.specs.Prelude.{◌≡◌, ℕ, ◌+◌, ◌-◌, ◌*◌, ◌/◌, ◌⊎◌, IsTrue, List, [], ◌∷◌}
use Rattle.std.specs.Prelude.{◌++◌, length, reverse, All}
use Rattle.proof_log.specs.declared.steps.Step.{Step}
use Rattle.proof_log.specs.declared.steps.Step.TheVariants.{Add, Drop, Bound}
use Rattle.proof_check.specs.Knowledge.{without_clauses}
use Rattle.sat_core.specs.States.{State}
use Rattle.clean_logs.specs.CleanLogs.{added_by, dropped_by}
use Rattle.clean_logs.specs.declared.kept.TheConstants.{KEPT_LEMMAS}
use Rattle.sat_search.specs.Live.{clause_in}
use Rattle.sat_search.specs.DropSteps.{gap_after, wait_of, is_long, IsHalf}
use Rattle.sat_search.specs.Searches.{IsOld}
use Rattle.sat_search.specs.Costs.{droppable}
use Rattle.sat_search.specs.Orders.{KeepsTrue}
use Rattle.sat_search.specs.declared.lemmas.Lemmas.{Lemmas}

-- the lemmas are those of the log, with the number of clauses that are still to be added
pub record AreLemmas (steps : List Step) (lemmas : Lemmas) : Type 0 where
  pub ids : reverse lemmas.ids.items ≡ added_by [] steps
  pub drops : lemmas.drops ≡ dropped_by 0 steps
  pub wait : lemmas.wait ≡ wait_of steps

-- how many literals the clauses have that the steps add
abbrev pub sizes : List Step → List ℕ
sizes [] = []
sizes (Add id lits hints ∷ steps) = length lits ∷ sizes steps
sizes (Drop ids ∷ steps) = sizes steps
sizes (Bound id price ∷ steps) = sizes steps

-- how many of the lemmas, the first ones, are old enough to be dropped
abbrev pub old_lemmas : Lemmas → ℕ
old_lemmas lemmas = length lemmas.ids.items - KEPT_LEMMAS * (lemmas.drops + 1)

-- half of the clauses that may be dropped are gone, rounded up
abbrev pub HalvesDroppable : Lemmas → State → State → Type 0
HalvesDroppable lemmas s now =
    length now.clauses + (droppable lemmas.ids.items (old_lemmas lemmas) s + 1) / 2
    ≡ length s.clauses

-- the wait after a drop step is that of the next one, which looks at the steps from there on; where
-- there was none, nothing changes
abbrev pub WaitsAgain : Lemmas → Lemmas → List Step → Type 0
WaitsAgain old new steps =
    (new ≡ old) ⊎
    ((new.drops ≡ old.drops + 1) × (new.wait ≡ gap_after new.drops) × (new.from ≡ length steps))

-- the log added the clause, and it is none of those that its next drop step has to leave
abbrev pub MayGo : List Step → ℕ → Type 0
MayGo steps id = IsOld (added_by [] steps) (dropped_by 0 steps) id

-- the core forgot these clauses, which were live and had more than two literals, and what is true
-- stays so
pub record Forgets (s : State) (ids : List ℕ) (now : State) : Type 0 where
  pub long : All (λ id. IsTrue (is_long (clause_in s.clauses id))) ids
  pub clauses : (id : ℕ) → clause_in now.clauses id ≡ without_clauses (clause_in s.clauses) ids id
  pub vars : now.vars ≡ s.vars
  pub last_id : now.last_id ≡ s.last_id
  pub level : now.level ≡ s.level
  pub trail : KeepsTrue s.trail now.trail

-- the core forgot those by which the list of ids grew
pub record ForgetsMore (s : State) (old : List ℕ) (now : State) (new : List ℕ) : Type 0 where
  pub more : List ℕ
  pub grown : new ≡ old ++ more
  pub forgets : Forgets s more now

-- the core forgot clauses that may go, when it was time and at most half of them, and the log has
-- the step; or nothing changed
pub record Drops (s : State) (old : List Step) (now : State) (new : List Step) : Type 0 where
  pub ids : List ℕ
  pub log :
      ((new ≡ old ++ Drop ids ∷ []) × (wait_of old ≡ 0) ×
      IsHalf (clause_in s.clauses) (added_by [] old) (dropped_by 0 old) ids) ⊎
      ((new ≡ old) × (ids ≡ []))
  pub may_go : All (MayGo old) ids
  pub forgets : Forgets s ids now
