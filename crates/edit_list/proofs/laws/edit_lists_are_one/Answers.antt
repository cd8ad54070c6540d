use Rattle.edit_list.proofs.OneEditList.{edit_lists_are_one}
use Rattle.edit_list.proofs.laws.edit_lists_are_one.Goals as goal

pub returns : goal.returns
returns c = edit_lists_are_one
