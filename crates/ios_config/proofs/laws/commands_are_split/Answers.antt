use Rattle.ios_config.proofs.InsertedCommands.{commands-split}
use Rattle.ios_config.proofs.laws.commands_are_split.Goals as goal

pub returns : goal.returns
returns c = commands-split
