use Rattle.ios_lines.proofs.WrittenLines.{indented-written, top-written, indented-inner, top-kinds}
use Rattle.ios_lines.proofs.laws.written_lines_are_read.Goals as goal

pub returns-clause-indented : goal.returns-clause-indented
returns-clause-indented c = indented-written

pub returns-clause-top : goal.returns-clause-top
returns-clause-top c = top-written

pub returns-clause-inner : goal.returns-clause-inner
returns-clause-inner c = indented-inner

pub returns-clause-kind : goal.returns-clause-kind
returns-clause-kind c = top-kinds
