use Rattle.std.proofs.Common.{◌∙◌}
use Rattle.condition_formula.specs.declared.condition.Condition.TheVariants.{Always}
use Rattle.condition_formula.specs.Clauses.{denied}
use Rattle.condition_formula.proofs.Drafting.{map-step, small-both, small-more}
use Rattle.condition_formula.proofs.writer.Writer.put_unless.Goals as goal

pub loop-condition-preserved : goal.loop-condition-preserved
loop-condition-preserved c = record {
  parts = map-step denied c.args.before.now c.loop-condition.parts.items c.push.new.self.items c.args.conditions.now c.loop-condition.condition-index Always c.denied.result
      c.loop-condition-test.true c.loop-condition.invariant.parts c.in_ok-push.ensures.items c.denied.ensures.part;
  small = small-more c.loop-condition.parts.items c.push.new.self.items c.denied.result c.in_ok-push.ensures.items c.loop-condition.invariant.small c.denied.ensures.small;
}

pub put-requires : goal.put-requires
put-requires c =
    small-both c.loop-condition.parts.items c.args.after.now c.deref.result.now (c.deref.ensures.value ∙ c.in_ok-append.ensures) c.loop-condition.invariant.small c.requires.after
