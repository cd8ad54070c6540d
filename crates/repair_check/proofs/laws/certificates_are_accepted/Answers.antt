use Rattle.repair_check.proofs.Exactly as lemmas
use Rattle.repair_check.proofs.laws.certificates_are_accepted.Goals as goal

pub returns : goal.returns
returns c =
    lemmas.certificates_are_accepted c.networks_after_edits_are_valid.ensures.one c.one_formula.ensures c.only_certificates_are_taken.ensures
    c.certificates_are_read_again.ensures.read c.edits_are_told_apart.ensures
