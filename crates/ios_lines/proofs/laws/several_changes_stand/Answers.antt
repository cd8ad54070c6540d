use Rattle.ios_lines.proofs.ChangedTexts.{several-changes}
use Rattle.ios_lines.proofs.laws.several_changes_stand.Goals as goal

pub returns : goal.returns
returns c = several-changes
