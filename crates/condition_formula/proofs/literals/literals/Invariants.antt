use Rattle.std.proofs.Common.{◌≡◌, [], take, fold, filter_map}
use Rattle.condition_formula.specs.Clauses.{with_new, part_literal}
use Rattle.condition_formula.proofs.literals.literals.Given as goal

abbrev pub invariant-loop-part : goal.invariant-loop-part
invariant-loop-part l = l.lits.items ≡ fold with_new [] (filter_map part_literal (take l.part-index l.parts))
