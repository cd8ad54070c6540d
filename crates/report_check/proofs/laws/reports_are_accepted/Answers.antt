use Rattle.report_check.proofs.Exactly.{exactly}
use Rattle.report_check.proofs.laws.reports_are_accepted.Goals as goal

pub returns : goal.returns
returns c = exactly
