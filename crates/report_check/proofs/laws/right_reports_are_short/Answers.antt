use Rattle.report_check.proofs.Short as lemmas
use Rattle.report_check.proofs.laws.right_reports_are_short.Goals as goal

pub returns : goal.returns
returns c = lemmas.right_reports_are_short
