use Rattle.network_edit_laws.proofs.Acting.{packet_lists_act, route_lists_act}
use Rattle.network_edit_laws.proofs.laws.bound_lists_act.Goals as goal

pub returns-clause-packets : goal.returns-clause-packets
returns-clause-packets c = packet_lists_act

pub returns-clause-routes : goal.returns-clause-routes
returns-clause-routes c = route_lists_act
