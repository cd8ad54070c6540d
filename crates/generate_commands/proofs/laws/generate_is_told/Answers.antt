use Rattle.generate_commands.proofs.Told.{generate_told}
use Rattle.generate_commands.proofs.laws.generate_is_told.Goals as goal

pub returns : goal.returns
returns c = generate_told
