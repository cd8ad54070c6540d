use Rattle.check_commands.proofs.Told.{any_check_told}
use Rattle.check_commands.proofs.laws.any_check_is_told.Goals as goal

pub returns : goal.returns
returns c = any_check_told
