use Rattle.certificate_laws.proofs.VerifiedAccepted.{verified_is_accepted}
use Rattle.certificate_laws.proofs.laws.verified_is_accepted.Goals as goal

pub returns : goal.returns
returns c = verified_is_accepted
