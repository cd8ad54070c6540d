use Rattle.ios_config.proofs.Unique.{config_one}
use Rattle.ios_config.proofs.laws.config_is_unique.Goals as goal

pub returns : goal.returns
returns c = config_one
