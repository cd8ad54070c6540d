-- What a spent log shows of a small formula.
use Rattle.std.specs.Prelude.{ℕ, ◌≤◌, ◌<◌, ◌^◌, List, [], All, None}
use Rattle.cnf_types.specs.declared.literal.Lit.{Lit}
use Rattle.cnf_types.specs.declared.clauses.Formula.{Formula}
use Rattle.cnf_types.specs.Literals.{variable}
use Rattle.proof_log.specs.declared.steps.Step.{Step}
use Rattle.clean_logs.specs.CleanLogs.{IsSpent}

-- the variables of the formula's clauses are from 1 to its number of variables
abbrev pub IsWithin : ℕ → List Lit → Type 0
IsWithin vars lits = All (λ l. (1 ≤ variable l) × (variable l ≤ vars)) lits

abbrev pub HasItsVariables : Formula → Type 0
HasItsVariables f = All (λ c. IsWithin f.vars c.lits) f.clauses

-- a log that is spent at a limit, for a formula of at most six variables and without bounds, is
-- short
abbrev pub SpentLogsAreShort : Type 0
SpentLogsAreShort =
    (f : Formula) → HasItsVariables f → f.vars ≤ 6 →
    (limit : ℕ) (steps : List Step) → IsSpent f None [] limit steps → limit < 3 ^ f.vars
