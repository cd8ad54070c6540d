use Rattle.std.proofs.Common.{◌≡◌, ◌*◌, ◌≤◌, length, take, sum_by}
use Rattle.cnf_types.specs.declared.clauses.Clause.{Clause}
use Rattle.cnf_types.proofs.sinks.literal_count.Given as goal

abbrev pub invariant-loop-clause : goal.invariant-loop-clause
invariant-loop-clause l = record {
  sum_is : l.count ≡ sum_by (λ (c : Clause). length c.lits) (take l.clause-index l.clauses);
  most : l.count ≤ l.clause-index * 4294967295;
}
