-- Cores that have some clauses of a formula, or all.
use Rattle.std.specs.Prelude.{◌≡◌, ℕ, ◌+◌, ◌≤◌, Bool, false, IsTrue, List, length, All, None}
use Rattle.std.specs.Prelude.{slice_index_or, if◌then◌else◌}
use Rattle.cnf_types.specs.declared.clauses.Formula.{Formula}
use Rattle.proof_check.specs.Knowledge.{formula_clause}
use Rattle.sat_core.specs.States.{State}
use Rattle.sat_search.specs.Live.{clause_in}

-- whether the flag of an id is set
abbrev pub is_there : List Bool → ℕ → Bool
is_there there id = slice_index_or there id false

-- the flags that were set are set
abbrev pub AreKept : List Bool → List Bool → Type 0
AreKept old new = (id : ℕ) → IsTrue (is_there old id) → IsTrue (is_there new id)

-- the core is at level 0, and of the formula's clauses it has those whose flags are set, each under
-- its id, and no others
pub record HasPart (f : Formula) (there : List Bool) (s : State) : Type 0 where
  pub level : s.level ≡ 0
  pub vars : s.vars ≡ f.vars
  pub size : length there ≡ length f.clauses + 1
  pub last_id : s.last_id ≤ length f.clauses
  pub positive : All (λ c. 1 ≤ c.id) s.clauses
  pub known : All (λ c. c.id ≤ s.last_id) s.clauses
  pub clauses : (id : ℕ) → clause_in s.clauses id ≡
      (if is_there there id then formula_clause f.clauses id else None)

-- the core is at level 0, and has the formula's clauses, each under its id, and no others
pub record HasFormula (f : Formula) (s : State) : Type 0 where
  pub level : s.level ≡ 0
  pub vars : s.vars ≡ f.vars
  pub last_id : s.last_id ≡ length f.clauses
  pub positive : All (λ c. 1 ≤ c.id) s.clauses
  pub known : All (λ c. c.id ≤ s.last_id) s.clauses
  pub clauses : (id : ℕ) → formula_clause f.clauses id ≡ clause_in s.clauses id
