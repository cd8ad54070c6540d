use Rattle.std.proofs.Common.{[], ◌∷◌, ◌∙◌, ap, List}
use Rattle.std.specs.Prelude.{if◌then◌else◌}
use Rattle.std.specs.List.{flat_map}
use Rattle.condition_formula.specs.declared.network.ConditionArc.{ConditionArc}
use Rattle.condition_formula.specs.declared.part.Part.{Part}
use Rattle.condition_formula.specs.Conditions.{is_counted}
use Rattle.condition_formula.specs.Formulas.{cell}
use Rattle.condition_formula.specs.Sides.{step_parts}
use Rattle.condition_formula.proofs.Adding.{Adds-next, Adds-all, Adds-same, flat_map-filter, map_as_flat}
use Rattle.condition_formula.proofs.sides.steps.Goals as goal

pub loop-arc-preserved : goal.loop-arc-preserved
loop-arc-preserved c =
    let f = λ (arc : ConditionArc). let ps : List (List Part) = if is_counted c.args.q.now.demand arc then step_parts
    (cell c.args.reached.first c.args.reached.columns c.args.class) c.args.class arc ∷ [] else [] in ps in
    Adds-next f c.args.out.now c.loop-arc.out c.counted_step.new.out c.slice-arc-items.result.now c.loop-arc.arc-index c.arc-item.result c.loop-arc-test.true c.arc-item.is
    c.loop-arc.invariant c.in_ok-counted_step.ensures

pub returns : goal.returns
returns c =
    let one = step_parts (cell c.args.reached.first c.args.reached.columns c.args.class) c.args.class in
    let f = λ (arc : ConditionArc). let ps : List (List Part) = if is_counted c.args.q.now.demand arc then one arc ∷ [] else [] in ps in
    Adds-same _ _ _ _ (ap (λ (xs : List ConditionArc). flat_map f xs) c.slice-arc-items.ensures.items
    ∙ flat_map-filter (λ (arc : ConditionArc). let ps : List (List Part) = one arc ∷ [] in ps) (is_counted c.args.q.now.demand) c.args.q.now.arcs ∙ map_as_flat one _)
    (Adds-all f c.args.out.now c.loop-arc.out c.slice-arc-items.result.now c.loop-arc.arc-index c.loop-arc-test.false c.loop-arc.invariant)
