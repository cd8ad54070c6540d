use Rattle.certificate_laws.proofs.Repaired as lemmas
use Rattle.certificate_laws.proofs.laws.repaired_is_accepted.Goals as goal

pub returns-clause-saved : goal.returns-clause-saved
returns-clause-saved c = lemmas.repaired_is_accepted (record {
  certified = c.written_claims_are_certified.ensures.certified;
  bounded = c.written_claims_are_certified.ensures.bounded;
  are_true = c.certified_claims_are_true.ensures;
  read = c.certificates_are_read_again.ensures.read;
  apart = c.edits_are_told_apart.ensures;
  writable = c.networks_are_writable.ensures;
  network = c.asking_more_changes_no_network.ensures.network;
})

pub returns-clause-left : goal.returns-clause-left
returns-clause-left c = lemmas.left_is_accepted (record {
  certified = c.written_claims_are_certified.ensures.certified;
  bounded = c.written_claims_are_certified.ensures.bounded;
  are_true = c.certified_claims_are_true.ensures;
  read = c.certificates_are_read_again.ensures.read;
  apart = c.edits_are_told_apart.ensures;
  writable = c.networks_are_writable.ensures;
  network = c.asking_more_changes_no_network.ensures.network;
})
