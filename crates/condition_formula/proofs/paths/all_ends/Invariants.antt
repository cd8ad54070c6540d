use Rattle.std.specs.List.{flat_map}
use Rattle.condition_formula.specs.Lists.{upto}
use Rattle.condition_formula.specs.Writing.{Adds}
use Rattle.condition_formula.specs.Reaching.{ends_parts}
use Rattle.condition_formula.proofs.paths.all_ends.Given as goal

abbrev pub invariant-loop-class : goal.invariant-loop-class
invariant-loop-class l = Adds l.fn.out l.out (flat_map (ends_parts l.q) (upto l.class))
