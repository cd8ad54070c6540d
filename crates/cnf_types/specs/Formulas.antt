-- Formulas, and when an assignment satisfies them.
use Rattle.std.specs.Prelude.{ℕ, ◌-◌, Bool, false, if◌then◌else◌, not, IsTrue, List, All}
use Rattle.std.specs.Prelude.{slice_index_or}
use Rattle.std.specs.List.{list_any}
use Rattle.cnf_types.specs.declared.literal.Lit.{Lit}
use Rattle.cnf_types.specs.declared.clauses.Formula.{Formula}
use Rattle.cnf_types.specs.Literals.{variable, is_positive}

-- the truth value of a literal under an assignment, which gives each variable one
abbrev pub value : (ℕ → Bool) → Lit → Bool
value assignment l =
    if is_positive l then assignment (variable l) else not (assignment (variable l))

-- a clause is true where some literal is
abbrev pub clause_value : (ℕ → Bool) → List Lit → Bool
clause_value assignment lits = list_any (value assignment) lits

-- the assignment makes each clause true
abbrev pub Satisfies : (ℕ → Bool) → Formula → Type 0
Satisfies assignment f = All (λ c. IsTrue (clause_value assignment c.lits)) f.clauses

-- the value of a variable by a list of values, in which that of variable v is at place v - 1
abbrev pub value_at : List Bool → ℕ → Bool
value_at values var = slice_index_or values (var - 1) false
