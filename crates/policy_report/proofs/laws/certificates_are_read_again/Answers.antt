use Rattle.policy_report.proofs.CertificatesRead as lemmas
use Rattle.policy_report.proofs.laws.certificates_are_read_again.Goals as goal

pub returns : goal.returns
returns c = record { written = lemmas.certificates_are_written; read = lemmas.certificates_are_read_again }
