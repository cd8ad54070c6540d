use Rattle.ios_config.proofs.EffectsOnGroups.{last-line, last-binding, first-entry, first-list-line, first-prefix-line}
use Rattle.ios_config.proofs.laws.one_command_sets_its_own.Goals as goal

pub returns-clause-process : goal.returns-clause-process
returns-clause-process c = last-line

pub returns-clause-binding : goal.returns-clause-binding
returns-clause-binding c = last-binding

pub returns-clause-entry : goal.returns-clause-entry
returns-clause-entry c = first-entry

pub returns-clause-list_line : goal.returns-clause-list_line
returns-clause-list_line c = first-list-line

pub returns-clause-prefix_line : goal.returns-clause-prefix_line
returns-clause-prefix_line c = first-prefix-line
