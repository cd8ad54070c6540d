use Rattle.ios_lines.proofs.OneList.{lines-join}
use Rattle.ios_lines.proofs.laws.lines_join.Goals as goal

pub returns : goal.returns
returns c = lines-join
