use Rattle.cnf_commands.proofs.Refuting.{lrat_told}
use Rattle.cnf_commands.proofs.laws.lrat_is_told.Goals as goal

pub returns : goal.returns
returns c = lrat_told
