-- What lines a reader takes as a report.
use Rattle.policy_report.proofs.ReportsTaken as lemmas
use Rattle.policy_report.proofs.laws.only_reports_are_taken.Goals as goal

pub returns : goal.returns
returns c = lemmas.only_reports_are_taken
