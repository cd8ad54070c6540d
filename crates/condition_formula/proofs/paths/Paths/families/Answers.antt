use Rattle.std.proofs.Common.{ℕ}
use Rattle.condition_formula.specs.Formulas.{cell}
use Rattle.condition_formula.specs.Reaching.{family_parts}
use Rattle.condition_formula.proofs.Adding.{Adds-more}
use Rattle.condition_formula.proofs.paths.Paths.families.Goals as goal

pub loop-number-preserved : goal.loop-number-preserved
loop-number-preserved c =
    Adds-more (λ (k : ℕ). family_parts c.args.self.now.q.now c.args.self.now.nodes (cell c.args.self.now.used.first c.args.self.now.used.columns k))
    c.args.out.now c.loop-number.out c.path.new.out c.loop-number.number c.loop-number.invariant c.in_ok-path.ensures
