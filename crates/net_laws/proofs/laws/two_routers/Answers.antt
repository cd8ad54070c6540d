use Rattle.net_laws.proofs.TwoRouters.{both_ways_routed, distances_are_stable}
use Rattle.net_laws.proofs.VerdictExamples.{one_path_is_right, one_cut_is_right, one_walk_is_right}
use Rattle.net_laws.proofs.ValidExample.{example_is_valid}
use Rattle.net_laws.proofs.laws.two_routers.Goals as goal

pub returns-clause-routed : goal.returns-clause-routed
returns-clause-routed c = both_ways_routed

pub returns-clause-distances : goal.returns-clause-distances
returns-clause-distances c = distances_are_stable

pub returns-clause-valid : goal.returns-clause-valid
returns-clause-valid c = example_is_valid

pub returns-clause-path : goal.returns-clause-path
returns-clause-path c = one_path_is_right

pub returns-clause-cut : goal.returns-clause-cut
returns-clause-cut c = one_cut_is_right

pub returns-clause-walk : goal.returns-clause-walk
returns-clause-walk c = one_walk_is_right
