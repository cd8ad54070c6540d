use Rattle.ios_words.proofs.ListLines.{list-lines-top}
use Rattle.ios_words.proofs.PrefixNames.{prefix-names}
use Rattle.ios_words.proofs.laws.list_lines_are_top_lines.Goals as goal

pub returns-clause-top : goal.returns-clause-top
returns-clause-top c = list-lines-top

pub returns-clause-names : goal.returns-clause-names
returns-clause-names c = prefix-names
