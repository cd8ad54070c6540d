use Rattle.patch_laws.proofs.ListsGrow.{lists-grow}
use Rattle.patch_laws.proofs.laws.lists_grow.Goals as goal

pub returns : goal.returns
returns c = lists-grow
