use Rattle.condition_formula.specs.Reaching.{ends_parts}
use Rattle.condition_formula.proofs.Adding.{Adds-more}
use Rattle.condition_formula.proofs.paths.all_ends.Goals as goal

pub loop-class-preserved : goal.loop-class-preserved
loop-class-preserved c =
    Adds-more (ends_parts c.args.q.now) c.args.out.now c.loop-class.out c.ends.new.out c.loop-class.class c.loop-class.invariant c.in_ok-ends.ensures
