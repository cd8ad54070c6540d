use Rattle.std.proofs.Common.{[]}
use Rattle.arc_run.proofs.Puts.{nothing_put}
use Rattle.arc_run.proofs.ending.put_text.Goals as goal

pub returns-in-Err-clause-stopped : goal.returns-in-Err-clause-stopped
returns-in-Err-clause-stopped g c = (0, nothing_put _ [])

pub returns-in-Err-line_of-clause-stopped : goal.returns-in-Err-line_of-clause-stopped
returns-in-Err-line_of-clause-stopped g c = (0, nothing_put _ [])
