use Rattle.verify_commands.proofs.Verified.{verify_told}
use Rattle.verify_commands.proofs.laws.verify_is_told.Goals as goal

pub returns : goal.returns
returns c = verify_told
