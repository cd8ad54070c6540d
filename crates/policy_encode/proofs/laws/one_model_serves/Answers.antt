use Rattle.policy_encode.proofs.Joined.{one_model_serves}
use Rattle.policy_encode.proofs.laws.one_model_serves.Goals as goal

pub returns : goal.returns
returns c = one_model_serves
