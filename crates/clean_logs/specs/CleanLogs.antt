-- Clean logs, and logs that are spent at a limit.
use Rattle.std.specs.Prelude.{◌≡◌, ℕ, ◌+◌, ◌*◌, suc, Bool, IsFalse, List, [], ◌∷◌, All, Contains}
use Rattle.std.specs.Prelude.{drop, length, Option, None}
use Rattle.cnf_types.specs.declared.literal.Lit.{Lit}
use Rattle.cnf_types.specs.declared.clauses.Formula.{Formula}
use Rattle.proof_log.specs.declared.steps.Step.{Step}
use Rattle.proof_log.specs.declared.steps.Step.TheVariants.{Add, Drop, Bound}
use Rattle.proof_check.specs.Knowledge.{Knowledge, start, step_fault, after, is_empty_clause}
use Rattle.clean_logs.specs.Lemmas.{IsNew}
use Rattle.clean_logs.specs.declared.kept.TheConstants.{KEPT_LEMMAS}

-- the ids of the clauses that were added, the latest first
abbrev pub added_after : List ℕ → Step → List ℕ
added_after added (Add id lits hints) = id ∷ added
added_after added (Drop ids) = added
added_after added (Bound id price) = added

-- how many steps dropped clauses
abbrev pub drops_after : ℕ → Step → ℕ
drops_after drops (Add id lits hints) = drops
drops_after drops (Drop ids) = drops + 1
drops_after drops (Bound id price) = drops

-- the ids of the clauses that steps add after others, the latest first
abbrev pub added_by : List ℕ → List Step → List ℕ
added_by added [] = added
added_by added (s ∷ steps) = added_by (added_after added s) steps

-- how many steps dropped clauses, with those before them
abbrev pub dropped_by : ℕ → List Step → ℕ
dropped_by drops [] = drops
dropped_by drops (s ∷ steps) = dropped_by (drops_after drops s) steps

-- An added clause is new and not empty. Only added clauses are dropped, and the j-th step that
-- drops names none of the KEPT_LEMMAS times j that were added last.
abbrev pub IsCleanStep : Knowledge → List ℕ → ℕ → Step → Type 0
IsCleanStep k added drops (Add id lits hints) = IsFalse (is_empty_clause lits) ×
    IsNew k.clause lits hints
IsCleanStep k added drops (Drop ids) =
    All (λ id. Contains (drop (KEPT_LEMMAS * (drops + 1)) added) id) ids
IsCleanStep k added drops (Bound id price) = Unit {0}

-- the steps are accepted and clean, after others that added these clauses and dropped so often
abbrev pub IsCleanAfter : Knowledge → List ℕ → ℕ → List Step → Type 0
IsCleanAfter k added drops [] = Unit {0}
IsCleanAfter k added drops (s ∷ steps) =
    (step_fault k s ≡ None) × IsCleanStep k added drops s ×
    IsCleanAfter (after k s) (added_after added s) (drops_after drops s) steps

-- the log is clean for a formula, a least bound and the literals that bounds negate
abbrev pub IsClean : Formula → Option ℕ → List Lit → List Step → Type 0
IsClean f least tops steps = IsCleanAfter (start f least tops) [] 0 steps

-- how many clauses the log adds
abbrev pub additions : List Step → ℕ
additions [] = 0
additions (Add id lits hints ∷ steps) = suc (additions steps)
additions (Drop ids ∷ steps) = additions steps
additions (Bound id price ∷ steps) = additions steps

-- the log is clean and adds just as many clauses as the limit says
abbrev pub IsSpent : Formula → Option ℕ → List Lit → ℕ → List Step → Type 0
IsSpent f least tops limit steps = IsClean f least tops steps × (additions steps ≡ limit)
