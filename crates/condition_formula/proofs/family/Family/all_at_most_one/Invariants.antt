use Rattle.std.specs.List.{flat_map}
use Rattle.condition_formula.specs.Lists.{upto}
use Rattle.condition_formula.specs.Writing.{Adds, used_by}
use Rattle.condition_formula.specs.Reaching.{once_parts}
use Rattle.condition_formula.proofs.family.Family.all_at_most_one.Given as goal

abbrev pub invariant-loop-node : goal.invariant-loop-node
invariant-loop-node l = Adds l.fn.out l.out (flat_map (once_parts l.self.q.now (used_by l.self)) (upto l.node))
