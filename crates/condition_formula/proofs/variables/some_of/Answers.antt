use Rattle.condition_formula.specs.Clauses.{yes}
use Rattle.condition_formula.proofs.Drafting.{map-step, small-more}
use Rattle.condition_formula.proofs.variables.some_of.Goals as goal

pub loop-variable-preserved : goal.loop-variable-preserved
loop-variable-preserved c = record {
  parts = map-step yes c.args.others.now c.loop-variable.parts.items c.push.new.self.items c.args.variables.now c.loop-variable.variable-index 0 c.yes.result
      c.loop-variable-test.true c.loop-variable.invariant.parts c.in_ok-push.ensures.items c.yes.ensures.part;
  small = small-more c.loop-variable.parts.items c.push.new.self.items c.yes.result c.in_ok-push.ensures.items c.loop-variable.invariant.small c.yes.ensures.small;
}
