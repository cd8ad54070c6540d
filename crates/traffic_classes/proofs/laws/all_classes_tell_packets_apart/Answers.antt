use Rattle.traffic_classes.proofs.EachPolicy.{no_more}
use Rattle.traffic_classes.proofs.Unions.{have_one_list, tell_apart}
use Rattle.traffic_classes.proofs.laws.all_classes_tell_packets_apart.Goals as goal

pub returns-clause-one : goal.returns-clause-one
returns-clause-one c = have_one_list

pub returns-clause-apart : goal.returns-clause-apart
returns-clause-apart c = tell_apart

pub returns-clause-no_more : goal.returns-clause-no_more
returns-clause-no_more c = no_more
