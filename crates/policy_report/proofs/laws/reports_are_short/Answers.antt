use Rattle.policy_report.proofs.Lengths as lemmas
use Rattle.policy_report.proofs.laws.reports_are_short.Goals as goal

pub returns : goal.returns
returns c = lemmas.reports_are_short
