-- What a reader answers to the lines of a report.
use Rattle.policy_report.proofs.ReportsRead as lemmas
use Rattle.policy_report.proofs.laws.reports_are_read_again.Goals as goal

pub returns : goal.returns
returns c = lemmas.reports_are_read_again
