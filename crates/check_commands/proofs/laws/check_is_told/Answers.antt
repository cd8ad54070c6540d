use Rattle.check_commands.proofs.ReportTold.{check_told}
use Rattle.check_commands.proofs.laws.check_is_told.Goals as goal

pub returns : goal.returns
returns c = check_told
