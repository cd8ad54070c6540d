-- How a formula is written in DIMACS form.
use Rattle.std.specs.Prelude.{◌≡◌, ℕ, ◌≤◌, List, ◌++◌, All, codes, decimal, flat_map, length, map}
use Rattle.std.specs.Prelude.{sum_by, Ok}
use Rattle.arc_base.specs.declared.limits.TheConstants.{VARIABLE_LIMIT, LITERAL_LIMIT}
use Rattle.cnf_types.specs.declared.clauses.Clause.{Clause}
use Rattle.cnf_types.specs.declared.clauses.Formula.{Formula}
use Rattle.cnf_types.specs.declared.literal.Lit.{Lit}
use Rattle.cnf_types.specs.Dimacs.{reading}
use Rattle.cnf_types.specs.Literals.{variable}
use Rattle.proof_log.specs.Texts.{before_spaces, literal_text}

-- the header: how many variables and clauses there are
abbrev pub header_line : Formula → List ℕ
header_line f =
    codes "p cnf " ++ decimal f.vars ++ codes " " ++ decimal (length f.clauses) ++ codes "\n"

-- a clause: its literals, each with a space behind it, and a 0
abbrev pub clause_line : Clause → List ℕ
clause_line c = before_spaces (map literal_text c.lits) ++ codes "0\n"

-- the plain text of a formula: its header, and then a line for each clause
abbrev pub formula_text : Formula → List ℕ
formula_text f = header_line f ++ flat_map clause_line f.clauses

-- each literal is of a variable of the formula
abbrev pub IsOfVariables : ℕ → Lit → Type 0
IsOfVariables vars l = (1 ≤ variable l) × (variable l ≤ vars)

-- the formula is within the limits of the reader: each literal is of one of its variables, it has
-- at most VARIABLE_LIMIT variables and LITERAL_LIMIT literals, and the number of its clauses has at
-- most 18 digits
pub record IsWithinLimits (f : Formula) : Type 0 where
  pub literals : All (λ c. All (IsOfVariables f.vars) c.lits) f.clauses
  pub few_variables : f.vars ≤ VARIABLE_LIMIT
  pub few_literals : sum_by (λ c. length c.lits) f.clauses ≤ LITERAL_LIMIT
  pub few_clauses : length f.clauses ≤ 999999999999999999

-- the plain text of a formula within the limits is read as the formula
abbrev pub FormulasAreReadAgain : Type 0
FormulasAreReadAgain = (f : Formula) → IsWithinLimits f → reading (formula_text f) ≡ Ok f
