use Rattle.traffic_classes.proofs.ServiceJoins.{uncut_is_leaf, parts_have_leaves}
use Rattle.traffic_classes.proofs.ServiceTiles.{some_tiles, same_service_leaves}
use Rattle.traffic_classes.proofs.laws.cutting_gives_leaves.Goals as goal

pub returns-clause-uncut : goal.returns-clause-uncut
returns-clause-uncut c = uncut_is_leaf

pub returns-clause-parts : goal.returns-clause-parts
returns-clause-parts c = parts_have_leaves

pub returns-clause-one : goal.returns-clause-one
returns-clause-one c = λ marks whole. ((let t = some_tiles marks whole in (t.0, t.1.are)), same_service_leaves marks whole)
