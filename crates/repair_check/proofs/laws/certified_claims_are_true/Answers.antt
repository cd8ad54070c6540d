use Rattle.repair_check.proofs.Exactly as lemmas
use Rattle.repair_check.proofs.laws.certified_claims_are_true.Goals as goal

pub returns : goal.returns
returns c = lemmas.certified_claims_are_true c.certificates_are_true.ensures
