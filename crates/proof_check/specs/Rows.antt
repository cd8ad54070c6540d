-- The clauses of a formula in the rows of a table.
use Rattle.std.specs.Prelude.{ℕ, List, [], ◌∷◌, length, map, drop, Option, Some, None}
use Rattle.cnf_types.specs.declared.literal.Lit.{Lit}
use Rattle.cnf_types.specs.declared.clauses.Clause.{Clause}
use Rattle.std.specs.Option.{unwrap_or}

-- the rows of a list of clauses: those of the clauses come after one that has none
abbrev pub rows_of : List Clause → List (Option (List Lit))
rows_of clauses = None ∷ map (λ c. Some c.lits) clauses

-- the clauses in the rows from 1 on
abbrev pub clauses_of : List (Option (List Lit)) → List Clause
clauses_of rows = map (λ row. record { lits = unwrap_or row [] }) (drop 1 rows)

-- how many literals a row has
abbrev pub row_size : Option (List Lit) → ℕ
row_size None = 0
row_size (Some lits) = length lits
