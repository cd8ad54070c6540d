use Rattle.apply_commands.proofs.Told.{apply_told}
use Rattle.apply_commands.proofs.laws.apply_is_told.Goals as goal

pub returns : goal.returns
returns c = apply_told
