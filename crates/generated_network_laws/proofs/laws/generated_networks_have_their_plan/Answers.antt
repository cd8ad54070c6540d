use Rattle.generated_network_laws.proofs.Networks.{have-plan, have-policies}
use Rattle.generated_network_laws.proofs.laws.generated_networks_have_their_plan.Goals as goal

pub returns-clause-network : goal.returns-clause-network
returns-clause-network c = have-plan

pub returns-clause-policies : goal.returns-clause-policies
returns-clause-policies c = have-policies
