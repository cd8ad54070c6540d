use Rattle.ios_config.proofs.ReplacedCommands.{a-replaced-line}
use Rattle.ios_config.proofs.laws.a_replaced_line_has_another_command.Goals as goal

pub returns : goal.returns
returns c = a-replaced-line
