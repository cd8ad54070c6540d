use Rattle.certificate_laws.proofs.Made.{generated_is_accepted}
use Rattle.certificate_laws.proofs.laws.generated_is_accepted.Goals as goal

pub returns : goal.returns
returns c = generated_is_accepted (record {
  certified = c.written_claims_are_certified.ensures.certified;
  bounded = c.written_claims_are_certified.ensures.bounded;
  are_true = c.certified_claims_are_true.ensures;
  read = c.certificates_are_read_again.ensures.read;
  apart = c.edits_are_told_apart.ensures;
  writable = c.networks_are_writable.ensures;
  network = c.asking_more_changes_no_network.ensures.network;
})
