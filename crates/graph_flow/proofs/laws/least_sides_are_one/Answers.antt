use Rattle.graph_flow.proofs.Cuts.{one_least_side}
use Rattle.graph_flow.proofs.laws.least_sides_are_one.Goals as goal

pub returns : goal.returns
returns c = one_least_side
