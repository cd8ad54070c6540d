use Rattle.ios_lines.proofs.ViewRows.{rows-are-seen}
use Rattle.ios_lines.proofs.laws.rows_are_seen.Goals as goal

pub returns : goal.returns
returns c = rows-are-seen
