use Rattle.net_laws.proofs.StableMaps.{one_stable_map}
use Rattle.net_laws.proofs.Existence.{some_stable_map}
use Rattle.net_laws.proofs.laws.stable_map_is_unique.Goals as goal

pub returns-clause-exists : goal.returns-clause-exists
returns-clause-exists c = some_stable_map

pub returns-clause-unique : goal.returns-clause-unique
returns-clause-unique c = one_stable_map
