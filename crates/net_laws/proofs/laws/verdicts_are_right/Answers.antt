use Rattle.net_model.proofs.Hosts.{one_pair_of_ends}
use Rattle.net_laws.proofs.RightVerdicts.{right_verdicts_are_true, right_verdicts_decide}
use Rattle.net_laws.proofs.laws.verdicts_are_right.Goals as goal

pub returns-clause-ends : goal.returns-clause-ends
returns-clause-ends c = one_pair_of_ends

pub returns-clause-verdicts : goal.returns-clause-verdicts
returns-clause-verdicts c = right_verdicts_are_true

pub returns-clause-decide : goal.returns-clause-decide
returns-clause-decide c = right_verdicts_decide
