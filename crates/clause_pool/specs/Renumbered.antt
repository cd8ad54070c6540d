-- Blocks and clauses under other ids.
use Rattle.std.specs.Prelude.{ℕ}
use Rattle.clause_pool.specs.declared.place.Place.{Place}
use Rattle.clause_pool.specs.Maps.{changed}
use Rattle.clause_pool.specs.Blocks.{Block}
use Rattle.clause_pool.specs.Pools.{State}

-- the block with another id
abbrev pub with_id : ℕ → Block → Block
with_id id b = record { id = id; one = b.one; two = b.two; lits = b.lits }

-- with another id of a clause
abbrev pub with_id_at : State → Place → ℕ → State
with_id_at s p id = record {
  vars = s.vars;
  spare = s.spare;
  clauses = changed s.clauses p (λ c. record { id = id; lits = c.lits });
  chains = s.chains;
}
