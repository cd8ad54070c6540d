use Rattle.traffic_classes.proofs.MakingUp.{has_one_list, classes_make_up, equal_or_disjoint}
use Rattle.traffic_classes.proofs.laws.classes_make_up_policies.Goals as goal

pub returns-clause-one : goal.returns-clause-one
returns-clause-one c = has_one_list

pub returns-clause-make_up : goal.returns-clause-make_up
returns-clause-make_up c = classes_make_up

pub returns-clause-equal_or_disjoint : goal.returns-clause-equal_or_disjoint
returns-clause-equal_or_disjoint c = equal_or_disjoint
