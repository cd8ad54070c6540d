use Rattle.arc_repair.proofs.Untouched.{met_networks}
use Rattle.arc_repair.proofs.laws.met_networks_need_no_edits.Goals as goal

pub returns : goal.returns
returns c = met_networks c.no_edits_change_nothing.ensures.network
