use Rattle.graph_flow.proofs.Menger.{paths_or_cut, not_both}
use Rattle.graph_flow.proofs.laws.paths_or_cut.Goals as goal

pub returns-clause-either : goal.returns-clause-either
returns-clause-either c = paths_or_cut

pub returns-clause-not_both : goal.returns-clause-not_both
returns-clause-not_both c = not_both
