-- The live clauses of a core and of a log's knowledge.
use Rattle.std.specs.Prelude.{ℕ, ◌==◌, List, find, Option}
use Rattle.std.specs.Option.{option_map}
use Rattle.cnf_types.specs.declared.literal.Lit.{Lit}
use Rattle.sat_core.specs.declared.numbered.Numbered.{Numbered}

-- the clause that has the id
abbrev pub clause_in : List Numbered → ℕ → Option (List Lit)
clause_in clauses id = option_map (λ c. c.lits) (find (λ c. c.id == id) clauses)
