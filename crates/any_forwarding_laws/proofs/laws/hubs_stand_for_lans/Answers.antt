use Rattle.any_forwarding_laws.proofs.Hubs.{hubs_cover}
use Rattle.any_forwarding_laws.proofs.HubExample.{example_has_hub}
use Rattle.any_forwarding_laws.proofs.laws.hubs_stand_for_lans.Goals as goal

pub returns-clause-cover : goal.returns-clause-cover
returns-clause-cover c = hubs_cover

pub returns-clause-example : goal.returns-clause-example
returns-clause-example c = example_has_hub
