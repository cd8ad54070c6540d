use Rattle.policy_encode.proofs.Joined.{models_are_repairs}
use Rattle.policy_encode.proofs.laws.models_are_repairs.Goals as goal

pub returns : goal.returns
returns c = models_are_repairs
