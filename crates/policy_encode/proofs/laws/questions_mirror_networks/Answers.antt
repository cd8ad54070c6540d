use Rattle.policy_encode.proofs.Joined.{questions_mirror_networks}
use Rattle.policy_encode.proofs.laws.questions_mirror_networks.Goals as goal

pub returns : goal.returns
returns c = questions_mirror_networks
