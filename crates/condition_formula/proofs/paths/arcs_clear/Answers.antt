use Rattle.std.proofs.Common.{List, ap}
use Rattle.std.specs.List.{flat_map}
use Rattle.condition_formula.specs.declared.network.ConditionArc.{ConditionArc}
use Rattle.condition_formula.specs.Reaching.{clear_parts}
use Rattle.condition_formula.proofs.Adding.{Adds-same, Adds-next, Adds-all}
use Rattle.condition_formula.proofs.paths.arcs_clear.Goals as goal

pub loop-arc-preserved : goal.loop-arc-preserved
loop-arc-preserved c =
    Adds-next (clear_parts c.args.class) c.args.out.now c.loop-arc.out c.clear.new.out c.slice-arc-items.result.now c.loop-arc.arc-index c.arc-item.result
    c.loop-arc-test.true c.arc-item.is c.loop-arc.invariant c.in_ok-clear.ensures

pub returns : goal.returns
returns c =
    Adds-same _ _ _ _ (ap (λ (xs : List ConditionArc). flat_map (clear_parts c.args.class) xs) c.slice-arc-items.ensures.items)
    (Adds-all (clear_parts c.args.class) c.args.out.now c.loop-arc.out c.slice-arc-items.result.now c.loop-arc.arc-index c.loop-arc-test.false c.loop-arc.invariant)
