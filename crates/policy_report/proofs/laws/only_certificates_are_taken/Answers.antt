use Rattle.policy_report.proofs.CertificatesTaken as lemmas
use Rattle.policy_report.proofs.laws.only_certificates_are_taken.Goals as goal

pub returns : goal.returns
returns c = lemmas.only_certificates_are_taken
