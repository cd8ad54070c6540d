use Rattle.file_copies.proofs.ReadAgain.{changes_left}
use Rattle.file_copies.proofs.change_laws.changes_are_left.Goals as goal

pub returns : goal.returns
returns c = changes_left
