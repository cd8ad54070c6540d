use Rattle.policy_encode.proofs.One.{formulas_are_there}
use Rattle.policy_encode.proofs.laws.formulas_are_there.Goals as goal

pub returns : goal.returns
returns c = formulas_are_there
