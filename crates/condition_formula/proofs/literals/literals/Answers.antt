use Rattle.std.proofs.Common.{[], false}
use Rattle.condition_formula.specs.declared.part.Part.TheVariants.{Fixed}
use Rattle.condition_formula.specs.Clauses.{part_literal, with_new}
use Rattle.condition_formula.proofs.Drafting.{fold_filter_step}
use Rattle.condition_formula.proofs.literals.literals.Goals as goal

pub loop-part-preserved : goal.loop-part-preserved
loop-part-preserved c =
    fold_filter_step with_new part_literal [] c.loop-part.lits.items c.add_part.new.lits.items c.args.parts.now c.loop-part.part-index (Fixed false) c.loop-part-test.true
    c.loop-part.invariant c.in_ok-add_part.ensures
