use Rattle.condition_formula.proofs.Adding.{Adds-then}
use Rattle.condition_formula.proofs.paths.Paths.paths.Goals as goal

pub returns : goal.returns
returns c =
    Adds-then _ _ _ _ _ (Adds-then _ _ _ _ _ c.in_ok-all_clear.ensures c.in_ok-families.ensures) c.in_ok-own_links.ensures
