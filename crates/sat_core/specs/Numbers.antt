-- Clauses with their ids, as ghost data.
use Rattle.std.specs.Prelude.{ℕ, List, refl}
use Rattle.std.specs.Coded.{Coded, code_by, coded×, coded_list, coded_ℕ}
use Rattle.cnf_types.specs.declared.literal.Lit.{Lit}
use Rattle.clause_pool.specs.Blocks.{coded_lit}
use Rattle.sat_core.specs.declared.numbered.Numbered.{Numbered}

-- a clause as the pair of its id and its literals
abbrev pub coded_clause : Coded Numbered
coded_clause =
    code_by (ℕ × List Lit) (coded× coded_ℕ (coded_list coded_lit)) (λ c. (c.id, c.lits))
    (λ p. record { id = p.0; lits = p.1 }) (λ _. refl)

-- a list of clauses as one of pairs
abbrev pub coded_clauses : Coded (List Numbered)
coded_clauses = coded_list coded_clause
