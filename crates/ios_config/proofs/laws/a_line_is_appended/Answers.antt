use Rattle.ios_config.proofs.AppendedLines.{a-line-appended}
use Rattle.ios_config.proofs.laws.a_line_is_appended.Goals as goal

pub returns : goal.returns
returns c = a-line-appended
