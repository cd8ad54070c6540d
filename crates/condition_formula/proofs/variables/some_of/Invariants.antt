use Rattle.std.proofs.Common.{◌≡◌, ◌++◌, take, map, All}
use Rattle.condition_formula.specs.Clauses.{yes}
use Rattle.condition_formula.specs.Writing.{IsSmall}
use Rattle.condition_formula.proofs.variables.some_of.Given as goal

abbrev pub invariant-loop-variable : goal.invariant-loop-variable
invariant-loop-variable l = record {
  parts : l.parts.items ≡ l.others ++ map yes (take l.variable-index l.variables);
  small : All IsSmall l.parts.items;
}
