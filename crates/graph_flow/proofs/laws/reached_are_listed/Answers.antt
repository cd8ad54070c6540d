use Rattle.graph_flow.proofs.Menger.{reached_are_listed}
use Rattle.graph_flow.proofs.laws.reached_are_listed.Goals as goal

pub returns : goal.returns
returns c = reached_are_listed
