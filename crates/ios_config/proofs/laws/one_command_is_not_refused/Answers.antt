use Rattle.ios_config.proofs.EffectsOnGroups.{still-once, silent, places-rise, no-numbers-rise}
use Rattle.ios_config.proofs.laws.one_command_is_not_refused.Goals as goal

pub returns-clause-once : goal.returns-clause-once
returns-clause-once c = still-once

pub returns-clause-silent : goal.returns-clause-silent
returns-clause-silent c = silent

pub returns-clause-places : goal.returns-clause-places
returns-clause-places c = places-rise

pub returns-clause-none : goal.returns-clause-none
returns-clause-none c = no-numbers-rise
