use Rattle.patch_laws.proofs.EditedFiles.{edited_files_have_the_network}
use Rattle.patch_laws.proofs.EditFit.{can-be-patched}
use Rattle.patch_laws.proofs.EditGood.{sites-good}
use Rattle.patch_laws.proofs.EditGrowth.{commands-grow}
use Rattle.patch_laws.proofs.EditPremises.{edited-files, edited-sited}
use Rattle.patch_laws.proofs.EditSequences.{sequences}
use Rattle.patch_laws.proofs.EditThere.{edit-sites-there}
use Rattle.patch_laws.proofs.EditTops.{have-list-lines}
use Rattle.patch_laws.proofs.laws.edited_files_have_the_network.Goals as goal

pub returns-clause-lists : goal.returns-clause-lists
returns-clause-lists c text lines cs are stand = have-list-lines text lines cs are stand

pub returns-clause-files : goal.returns-clause-files
returns-clause-files c = edited-files (λ text lines cs are stand. have-list-lines text lines cs are stand)

pub returns-clause-sited : goal.returns-clause-sited
returns-clause-sited c = edited-sited (λ text lines cs are stand. have-list-lines text lines cs are stand) edit-sites-there (can-be-patched sequences) (sites-good sequences) commands-grow

pub returns-clause-network : goal.returns-clause-network
returns-clause-network c = edited_files_have_the_network
