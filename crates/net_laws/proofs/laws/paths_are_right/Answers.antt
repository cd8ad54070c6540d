use Rattle.net_laws.proofs.RightPaths.{right_paths_reach, refusals_are_right}
use Rattle.net_laws.proofs.laws.paths_are_right.Goals as goal

pub returns-clause-reach : goal.returns-clause-reach
returns-clause-reach c = right_paths_reach

pub returns-clause-refused : goal.returns-clause-refused
returns-clause-refused c = refusals_are_right
