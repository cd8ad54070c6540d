use Rattle.std.proofs.Common.{◌≡◌, ◌++◌, take, map, All}
use Rattle.condition_formula.specs.Clauses.{denied}
use Rattle.condition_formula.specs.Writing.{IsSmall}
use Rattle.condition_formula.proofs.writer.Writer.put_unless.Given as goal

abbrev pub invariant-loop-condition : goal.invariant-loop-condition
invariant-loop-condition l = record {
  parts : l.parts.items ≡ l.before ++ map denied (take l.condition-index l.conditions);
  small : All IsSmall l.parts.items;
}
