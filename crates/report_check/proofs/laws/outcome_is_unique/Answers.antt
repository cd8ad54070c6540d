use Rattle.report_check.proofs.OneOutcome.{one_outcome}
use Rattle.report_check.proofs.laws.outcome_is_unique.Goals as goal

pub returns : goal.returns
returns c = one_outcome
