use Rattle.ios_config.proofs.OneAnswer.{refusal_one, refused_alone}
use Rattle.ios_config.proofs.laws.refusal_is_unique.Goals as goal

pub returns-clause-one : goal.returns-clause-one
returns-clause-one c = refusal_one

pub returns-clause-alone : goal.returns-clause-alone
returns-clause-alone c = refused_alone
