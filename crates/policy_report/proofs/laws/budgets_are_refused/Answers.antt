use Rattle.policy_report.proofs.CertificatesRead as lemmas
use Rattle.policy_report.proofs.laws.budgets_are_refused.Goals as goal

pub returns : goal.returns
returns c = lemmas.budgets_are_refused
