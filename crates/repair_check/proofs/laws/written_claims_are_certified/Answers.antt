use Rattle.repair_check.proofs.Written as written
use Rattle.repair_check.proofs.Bounded as bounded
use Rattle.repair_check.proofs.laws.written_claims_are_certified.Goals as goal

pub returns-clause-certified : goal.returns-clause-certified
returns-clause-certified c = written.written_claims_are_certified c.certificates_are_read_again.ensures.written

pub returns-clause-bounded : goal.returns-clause-bounded
returns-clause-bounded c = bounded.certificates_name_their_bound c.certificates_are_read_again.ensures.read c.edits_are_told_apart.ensures
