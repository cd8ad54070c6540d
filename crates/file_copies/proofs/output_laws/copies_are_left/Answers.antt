use Rattle.file_copies.proofs.Left.{copies_left}
use Rattle.file_copies.proofs.output_laws.copies_are_left.Goals as goal

pub returns : goal.returns
returns c = copies_left
