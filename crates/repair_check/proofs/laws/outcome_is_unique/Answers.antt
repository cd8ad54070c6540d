use Rattle.repair_check.proofs.OneOutcome.{has_one_outcome}
use Rattle.repair_check.proofs.laws.outcome_is_unique.Goals as goal

pub returns : goal.returns
returns c = has_one_outcome c.networks_after_edits_are_valid.ensures.one c.one_formula.ensures
