use Rattle.patch_laws.proofs.NewListChunks.{new-chunks-good, new-chunk-lines}
use Rattle.patch_laws.proofs.NewListGroups.{new-lists-set}
use Rattle.patch_laws.proofs.laws.new_lists_are_chunks.Goals as goal

pub returns-clause-good : goal.returns-clause-good
returns-clause-good c = new-chunks-good

pub returns-clause-lines : goal.returns-clause-lines
returns-clause-lines c = new-chunk-lines

pub returns-clause-set : goal.returns-clause-set
returns-clause-set c = new-lists-set
