use Rattle.edit_space.proofs.OneAfter.{after_is_one}
use Rattle.edit_space.proofs.SomeAfter.{after_is_there}
use Rattle.edit_space.proofs.SomeNames.{after_is_valid}
use Rattle.edit_space.proofs.laws.networks_after_edits_are_valid.Goals as goal

pub returns-clause-there : goal.returns-clause-there
returns-clause-there c = after_is_there

pub returns-clause-valid : goal.returns-clause-valid
returns-clause-valid c = after_is_valid

pub returns-clause-one : goal.returns-clause-one
returns-clause-one c = after_is_one
