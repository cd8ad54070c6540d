use Rattle.ios_config.proofs.InsertedLines.{inner-adds, head-adds, single-adds, closing-adds}
use Rattle.ios_config.proofs.laws.an_inserted_line_adds_its_command.Goals as goal

pub returns-clause-inner : goal.returns-clause-inner
returns-clause-inner c = inner-adds

pub returns-clause-head : goal.returns-clause-head
returns-clause-head c = head-adds

pub returns-clause-single : goal.returns-clause-single
returns-clause-single c = single-adds

pub returns-clause-closing : goal.returns-clause-closing
returns-clause-closing c = closing-adds
