use Rattle.policy_encode.proofs.Joined.{formulas_are_searchable}
use Rattle.policy_encode.proofs.laws.formulas_are_searchable.Goals as goal

pub returns : goal.returns
returns c = formulas_are_searchable
