use Rattle.std.proofs.Common.{ℕ}
use Rattle.condition_formula.specs.Formulas.{cell}
use Rattle.condition_formula.specs.Sides.{side_parts}
use Rattle.condition_formula.proofs.Adding.{Adds-more}
use Rattle.condition_formula.proofs.sides.kept_off.Goals as goal

pub loop-class-preserved : goal.loop-class-preserved
loop-class-preserved c =
    Adds-more (λ (class : ℕ). side_parts c.args.q.now (cell c.args.reached.first c.args.reached.columns class) class) c.args.out.now c.loop-class.out
    c.side.new.out c.loop-class.class c.loop-class.invariant c.in_ok-side.ensures
