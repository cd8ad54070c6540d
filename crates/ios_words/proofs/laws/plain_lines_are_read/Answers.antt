use Rattle.ios_words.proofs.PlainLines.{read-plain, closing-line}
use Rattle.ios_words.proofs.laws.plain_lines_are_read.Goals as goal

pub returns-clause-lines : goal.returns-clause-lines
returns-clause-lines c = read-plain

pub returns-clause-closing : goal.returns-clause-closing
returns-clause-closing c = closing-line
