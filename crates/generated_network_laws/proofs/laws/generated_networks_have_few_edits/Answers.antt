use Rattle.generated_network_laws.proofs.FewEdits.{few-of-all}
use Rattle.generated_network_laws.proofs.laws.generated_networks_have_few_edits.Goals as goal

pub returns : goal.returns
returns c = few-of-all
