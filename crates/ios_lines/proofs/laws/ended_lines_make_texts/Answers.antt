use Rattle.ios_lines.proofs.EndedLines.{lines-of-text, rows-make, ended-append, ended-before}
use Rattle.ios_lines.proofs.laws.ended_lines_make_texts.Goals as goal

pub returns-clause-lines : goal.returns-clause-lines
returns-clause-lines c = lines-of-text

pub returns-clause-rows : goal.returns-clause-rows
returns-clause-rows c = rows-make

pub returns-clause-join : goal.returns-clause-join
returns-clause-join c = ended-append

pub returns-clause-part : goal.returns-clause-part
returns-clause-part c = ended-before
