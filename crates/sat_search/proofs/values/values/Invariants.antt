use Rattle.std.proofs.Common.{◌≡◌, ℕ, ◌+◌, ◌<◌, ◌≤◌, true, length}
use Rattle.cnf_types.specs.Literals.{literal}
use Rattle.sat_core.specs.Trails.{is_on}
use Rattle.cnf_types.specs.Formulas.{value_at}
use Rattle.sat_search.proofs.values.values.Given as goal

abbrev pub invariant-loop-var : goal.invariant-loop-var
invariant-loop-var l = record {
  size : length l.values.items + 1 ≡ l.var;
  values : (v : ℕ) → 1 ≤ v → v < l.var → value_at l.values.items v ≡ is_on l.core.trail (literal v true);
}
