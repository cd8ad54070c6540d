use Rattle.edit_space.proofs.NewNames.{new_names_are_new, new_names_differ}
use Rattle.edit_space.proofs.laws.new_names_clash_with_none.Goals as goal

pub returns-clause-new : goal.returns-clause-new
returns-clause-new c = new_names_are_new

pub returns-clause-differ : goal.returns-clause-differ
returns-clause-differ c = new_names_differ
