use Rattle.ios_lines.proofs.ChangedTexts.{inner-may, top-may}
use Rattle.ios_lines.proofs.laws.lines_may_stand.Goals as goal

pub returns-clause-inner : goal.returns-clause-inner
returns-clause-inner c = inner-may

pub returns-clause-top : goal.returns-clause-top
returns-clause-top c = top-may
