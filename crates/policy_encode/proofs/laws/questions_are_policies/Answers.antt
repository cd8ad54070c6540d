use Rattle.policy_encode.proofs.Joined.{questions_are_policies}
use Rattle.policy_encode.proofs.laws.questions_are_policies.Goals as goal

pub returns : goal.returns
returns c = questions_are_policies
