use Rattle.ios_config.proofs.JoinedGroups.{joins-group, begins-group}
use Rattle.ios_config.proofs.JoinedSettings.{joins-one}
use Rattle.ios_config.proofs.laws.one_group_changes.Goals as goal

pub returns-clause-joins : goal.returns-clause-joins
returns-clause-joins c = joins-group

pub returns-clause-one : goal.returns-clause-one
returns-clause-one c = joins-one

pub returns-clause-begins : goal.returns-clause-begins
returns-clause-begins c = begins-group
