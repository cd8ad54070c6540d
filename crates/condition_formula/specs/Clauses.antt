-- Clauses over conditions: their parts, and how they are written.
use Rattle.std.specs.Prelude.{ℕ, ◌+◌, Bool, true, false, not, if◌then◌else◌, ◌==◌, IsTrue, List, []}
use Rattle.std.specs.Prelude.{◌∷◌, ◌++◌, map, fold, filter_map, Option, Some, None, Contains}
use Rattle.std.specs.Prelude.{length, sum_by}
use Rattle.std.specs.List.{list_any}
use Rattle.cnf_types.specs.declared.literal.Lit.{Lit}
use Rattle.cnf_types.specs.declared.clauses.Clause.{Clause}
use Rattle.cnf_types.specs.Literals.{literal}
use Rattle.condition_formula.specs.declared.part.Part.{Part}
use Rattle.condition_formula.specs.declared.part.Part.TheVariants.{Fixed, Literal}
use Rattle.condition_formula.specs.declared.condition.Condition.{Condition}
use Rattle.condition_formula.specs.declared.condition.Condition.TheVariants.{Always, Never, If}
use Rattle.condition_formula.specs.declared.condition.Condition.TheVariants.{Unless}

-- the literal of the variable
abbrev pub yes : ℕ → Part
yes variable = Literal variable true

-- the literal of the variable's negation
abbrev pub no : ℕ → Part
no variable = Literal variable false

-- the variable of the edit at this place
abbrev pub edit_variable : ℕ → ℕ
edit_variable edit = edit + 1

-- the part that says that the condition holds
abbrev pub affirmed : Condition → Part
affirmed Always = Fixed true
affirmed Never = Fixed false
affirmed (If edit) = yes (edit_variable edit)
affirmed (Unless edit) = no (edit_variable edit)

-- the part that says that the condition does not hold
abbrev pub denied : Condition → Part
denied Always = Fixed false
denied Never = Fixed true
denied (If edit) = no (edit_variable edit)
denied (Unless edit) = yes (edit_variable edit)

-- the truth value of a part under an assignment
abbrev pub part_value : (ℕ → Bool) → Part → Bool
part_value assignment (Fixed truth) = truth
part_value assignment (Literal variable true) = assignment variable
part_value assignment (Literal variable false) = not (assignment variable)

-- the truth value of a clause: it is true if one of its parts is
abbrev pub parts_value : (ℕ → Bool) → List Part → Bool
parts_value assignment parts = list_any (part_value assignment) parts

-- the assignment makes each of the clauses true
abbrev pub Fulfils : (ℕ → Bool) → List (List Part) → Type 0
Fulfils assignment clauses =
    (parts : List Part) → Contains clauses parts → IsTrue (parts_value assignment parts)

-- whether the part makes a clause true whatever its variables are
abbrev pub is_fixed_true : Part → Bool
is_fixed_true (Fixed truth) = truth
is_fixed_true (Literal variable positive) = false

-- the literal of a part that is no truth value
abbrev pub part_literal : Part → Option Lit
part_literal (Fixed truth) = None
part_literal (Literal variable positive) = Some (literal variable positive)

-- the literals with one more at the end, unless it is there already
abbrev pub with_new : List Lit → Lit → List Lit
with_new lits lit = if list_any (λ l. l.code == lit.code) lits then lits else lits ++ lit ∷ []

-- the literals, each once
abbrev pub distinct_lits : List Lit → List Lit
distinct_lits lits = fold with_new [] lits

-- the literals of a clause, or None if a part makes it true whatever its variables are
abbrev pub written : List Part → Option (List Lit)
written parts =
    if list_any is_fixed_true parts then None
    else Some (distinct_lits (filter_map part_literal parts))

-- the clauses that are written: those that no part makes true whatever their variables are
abbrev pub written_clauses : List (List Part) → List Clause
written_clauses clauses = map (λ lits. record { lits = lits }) (filter_map written clauses)

-- how many literals the clauses have when they are written
abbrev pub literal_count : List (List Part) → ℕ
literal_count clauses = sum_by (λ c. length c.lits) (written_clauses clauses)
