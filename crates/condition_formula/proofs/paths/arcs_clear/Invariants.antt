use Rattle.std.proofs.Common.{take}
use Rattle.std.specs.List.{flat_map}
use Rattle.condition_formula.specs.Writing.{Adds}
use Rattle.condition_formula.specs.Reaching.{clear_parts}
use Rattle.condition_formula.proofs.paths.arcs_clear.Given as goal

abbrev pub invariant-loop-arc : goal.invariant-loop-arc
invariant-loop-arc l = Adds l.fn.out l.out (flat_map (clear_parts l.class) (take l.arc-index l.arc-items))
