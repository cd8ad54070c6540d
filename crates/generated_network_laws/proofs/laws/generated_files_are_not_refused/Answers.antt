use Rattle.generated_network_laws.proofs.Networks.{not-refused}
use Rattle.generated_network_laws.proofs.laws.generated_files_are_not_refused.Goals as goal

pub returns : goal.returns
returns c = not-refused
