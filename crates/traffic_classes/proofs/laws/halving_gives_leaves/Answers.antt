use Rattle.traffic_classes.proofs.HalvesLeaves.{unsplit_is_leaf, halves_have_leaves}
use Rattle.traffic_classes.proofs.OneList.{tiles, same_leaves}
use Rattle.traffic_classes.proofs.laws.halving_gives_leaves.Goals as goal

pub returns-clause-unsplit : goal.returns-clause-unsplit
returns-clause-unsplit c = unsplit_is_leaf

pub returns-clause-halves : goal.returns-clause-halves
returns-clause-halves c = halves_have_leaves

pub returns-clause-one : goal.returns-clause-one
returns-clause-one c = λ marks whole. ((let t = tiles marks whole in (t.leaves, t.are)), same_leaves marks whole)
