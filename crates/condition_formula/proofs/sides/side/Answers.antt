use Rattle.condition_formula.proofs.Adding.{Adds-then}
use Rattle.condition_formula.proofs.sides.side.Goals as goal

pub returns : goal.returns
returns c =
    Adds-then _ _ _ _ _ (Adds-then _ _ _ _ _ c.in_ok-enters.ensures c.in_ok-steps.ensures) c.in_ok-leaves.ensures
