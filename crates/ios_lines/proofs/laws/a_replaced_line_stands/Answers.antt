use Rattle.ios_lines.proofs.ChangedTexts.{a-replaced-line}
use Rattle.ios_lines.proofs.laws.a_replaced_line_stands.Goals as goal

pub returns : goal.returns
returns c = a-replaced-line
