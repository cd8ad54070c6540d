use Rattle.condition_formula.proofs.Adding.{Adds-then}
use Rattle.condition_formula.proofs.paths.Paths.reached.Goals as goal

pub returns : goal.returns
returns c =
    Adds-then _ _ _ _ _ c.in_ok-all_ends.ensures c.in_ok-paths_between.ensures
