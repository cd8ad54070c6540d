use Rattle.std.proofs.Common.{[], arith}
use Rattle.file_copies.proofs.changing.changes.Goals as goal

pub patch-requires-clause-built : goal.patch-requires-clause-built
patch-requires-clause-built c = c.asking_more_changes_no_network.ensures.built [] 2048 _ _ _ (omega arith) c.requires.built
