use Rattle.condition_formula.proofs.Adding.{Adds-then}
use Rattle.condition_formula.proofs.family.Family.path.Goals as goal

pub returns : goal.returns
returns c =
    Adds-then _ _ _ _ _ (Adds-then _ _ _ _ _
    (Adds-then _ _ _ _ _ (Adds-then _ _ _ _ _ (Adds-then _ _ _ _ _ c.in_ok-routed.ensures c.in_ok-ends.ensures) c.in_ok-none_into_source.ensures) c.in_ok-none_out_of_target.ensures)
    c.in_ok-all_conserve.ensures) c.in_ok-all_at_most_one.ensures
