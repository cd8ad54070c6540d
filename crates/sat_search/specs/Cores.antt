-- The core that a search over a formula begins with.
use Rattle.std.specs.Prelude.{List, [], map, length}
use Rattle.std.specs.List.{enumerate_from}
use Rattle.cnf_types.specs.declared.clauses.Clause.{Clause}
use Rattle.cnf_types.specs.declared.clauses.Formula.{Formula}
use Rattle.sat_core.specs.declared.numbered.Numbered.{Numbered}
use Rattle.sat_core.specs.States.{State}

-- the clauses with their ids, which count from 1
abbrev pub numbered : List Clause → List Numbered
numbered clauses = map (λ p. record { id = p.0; lits = p.1.lits }) (enumerate_from 1 clauses)

-- the formula's clauses, and nothing on the trail
abbrev pub core_of : Formula → State
core_of formula = record {
  vars = formula.vars;
  clauses = numbered formula.clauses;
  last_id = length formula.clauses;
  trail = [];
  level = 0;
}
