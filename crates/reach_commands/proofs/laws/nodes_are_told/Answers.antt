use Rattle.reach_commands.proofs.NodesTold.{nodes_told}
use Rattle.reach_commands.proofs.laws.nodes_are_told.Goals as goal

pub returns : goal.returns
returns c words = nodes_told words
