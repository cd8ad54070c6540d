use Rattle.reach_commands.proofs.PrefersTold.{prefers_told}
use Rattle.reach_commands.proofs.laws.prefers_is_told.Goals as goal

pub returns : goal.returns
returns c words = prefers_told words
