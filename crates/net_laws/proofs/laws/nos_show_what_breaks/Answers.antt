use Rattle.net_laws.proofs.FailedSets.{holds_under_each, right_nos_break}
use Rattle.net_laws.proofs.laws.nos_show_what_breaks.Goals as goal

pub returns-clause-holds : goal.returns-clause-holds
returns-clause-holds c = holds_under_each

pub returns-clause-breaks : goal.returns-clause-breaks
returns-clause-breaks c = right_nos_break
