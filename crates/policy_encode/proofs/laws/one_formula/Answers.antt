use Rattle.policy_encode.proofs.One.{one_formula}
use Rattle.policy_encode.proofs.laws.one_formula.Goals as goal

pub returns : goal.returns
returns c = one_formula
