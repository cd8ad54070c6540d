use Rattle.ios_lines.proofs.ChangedTexts.{an-inserted-line}
use Rattle.ios_lines.proofs.laws.an_inserted_line_stands.Goals as goal

pub returns : goal.returns
returns c = an-inserted-line
