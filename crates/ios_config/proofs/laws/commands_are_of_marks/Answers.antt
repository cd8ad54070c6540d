use Rattle.ios_config.proofs.MarkCommands.{commands-of-marks}
use Rattle.ios_config.proofs.laws.commands_are_of_marks.Goals as goal

pub returns : goal.returns
returns c = commands-of-marks
