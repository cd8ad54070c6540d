use Rattle.network_edit_laws.proofs.NoEdits.{none_change, none_cost}
use Rattle.network_edit_laws.proofs.kept.no_edits_change_nothing.Goals as goal

pub returns-clause-network : goal.returns-clause-network
returns-clause-network c = none_change

pub returns-clause-price : goal.returns-clause-price
returns-clause-price c = none_cost
