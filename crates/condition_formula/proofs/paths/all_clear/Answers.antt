use Rattle.std.proofs.Common.{ℕ}
use Rattle.std.specs.List.{flat_map}
use Rattle.condition_formula.specs.Reaching.{clear_parts}
use Rattle.condition_formula.proofs.Adding.{Adds-more}
use Rattle.condition_formula.proofs.paths.all_clear.Goals as goal

pub loop-class-preserved : goal.loop-class-preserved
loop-class-preserved c =
    Adds-more (λ (k : ℕ). flat_map (clear_parts k) c.args.q.now.arcs) c.args.out.now c.loop-class.out c.arcs_clear.new.out c.loop-class.class c.loop-class.invariant c.in_ok-arcs_clear.ensures
