use Rattle.reach_commands.proofs.RecheckTold.{recheck_told}
use Rattle.reach_commands.proofs.laws.recheck_is_told.Goals as goal

pub returns : goal.returns
returns c words = recheck_told words
