use Rattle.line_edit_laws.proofs.Chain.{edited-lines}
use Rattle.line_edit_laws.proofs.laws.edited_lines_are_read.Goals as goal

pub returns : goal.returns
returns c = edited-lines
