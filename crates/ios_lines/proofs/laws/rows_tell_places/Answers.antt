use Rattle.ios_lines.proofs.ChangedTexts.{rows-tell}
use Rattle.ios_lines.proofs.laws.rows_tell_places.Goals as goal

pub returns : goal.returns
returns c = rows-tell
