use Rattle.net_laws.proofs.LeftRoutes.{routes_decide}
use Rattle.net_laws.proofs.AllUp.{routes_decide_all_up}
use Rattle.net_laws.proofs.laws.routes_decide.Goals as goal

pub returns-clause-under : goal.returns-clause-under
returns-clause-under c = routes_decide

pub returns-clause-all_up : goal.returns-clause-all_up
returns-clause-all_up c = routes_decide_all_up
