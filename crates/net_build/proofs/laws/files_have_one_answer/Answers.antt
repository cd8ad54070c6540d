use Rattle.net_build.proofs.OneAnswer.{one_network, one_refusal, network_or_refused}
use Rattle.net_build.proofs.laws.files_have_one_answer.Goals as goal

pub returns-clause-one_network : goal.returns-clause-one_network
returns-clause-one_network c = one_network

pub returns-clause-one_refusal : goal.returns-clause-one_refusal
returns-clause-one_refusal c = one_refusal

pub returns-clause-not_both : goal.returns-clause-not_both
returns-clause-not_both c = network_or_refused
