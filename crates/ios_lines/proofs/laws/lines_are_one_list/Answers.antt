use Rattle.ios_lines.proofs.OneList.{one-list}
use Rattle.ios_lines.proofs.laws.lines_are_one_list.Goals as goal

pub returns : goal.returns
returns c = one-list
