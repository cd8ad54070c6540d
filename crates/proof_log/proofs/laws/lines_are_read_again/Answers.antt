use Rattle.proof_log.proofs.Again.{log_read}
use Rattle.proof_log.proofs.laws.lines_are_read_again.Goals as goal

pub returns : goal.returns
returns c = log_read
