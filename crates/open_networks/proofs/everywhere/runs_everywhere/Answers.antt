use Rattle.any_forwarding_laws.proofs.Everywhere.{everywhere_is_open}
use Rattle.any_forwarding_laws.proofs.Verdicts.{right_verdicts_decide_any}
use Rattle.open_networks.proofs.Ends.{runs}
use Rattle.open_networks.proofs.everywhere.runs_everywhere.Goals as goal

pub returns-clause-decide : goal.returns-clause-decide
returns-clause-decide c valid told =
    right_verdicts_decide_any _ (everywhere_is_open _ valid
    (runs _ (c.is_ospf.ensures.0 c.if-not-is_ospf.false) (c.have_active_ends.ensures.0 c.if-not-have_active_ends.false) (c.tell_hosts.ensures.0 told)))
