use Rattle.ios_config.proofs.LineLists.{commands-of-lines, inner-in, head-in, single-in, closing-in, appended-in}
use Rattle.ios_config.proofs.LinesBefore.{put-before-in, single-before-in}
use Rattle.ios_config.proofs.ReplacedIn.{replaced-in}
use Rattle.ios_config.proofs.laws.lines_are_put_one_by_one.Goals as goal

pub returns-clause-commands : goal.returns-clause-commands
returns-clause-commands c = commands-of-lines

pub returns-clause-inner : goal.returns-clause-inner
returns-clause-inner c = inner-in

pub returns-clause-head : goal.returns-clause-head
returns-clause-head c = head-in

pub returns-clause-single : goal.returns-clause-single
returns-clause-single c = single-in

pub returns-clause-closing : goal.returns-clause-closing
returns-clause-closing c = closing-in

pub returns-clause-appended : goal.returns-clause-appended
returns-clause-appended c = appended-in

pub returns-clause-before : goal.returns-clause-before
returns-clause-before c = put-before-in

pub returns-clause-single_before : goal.returns-clause-single_before
returns-clause-single_before c = single-before-in

pub returns-clause-replaced : goal.returns-clause-replaced
returns-clause-replaced c = replaced-in
