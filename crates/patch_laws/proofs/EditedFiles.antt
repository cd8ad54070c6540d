-- Files after edits have the network after the edits.
use Rattle.patch_laws.specs.EditSiteLaws.{EditedFilesHaveTheNetwork}
use Rattle.patch_laws.proofs.EditFit.{can-be-patched}
use Rattle.patch_laws.proofs.EditGood.{sites-good}
use Rattle.patch_laws.proofs.EditGrowth.{commands-grow}
use Rattle.patch_laws.proofs.EditPremises.{edited-network, edited-sited}
use Rattle.patch_laws.proofs.EditSequences.{sequences}
use Rattle.patch_laws.proofs.EditThere.{edit-sites-there}
use Rattle.patch_laws.proofs.EditTops.{have-list-lines}

pub edited_files_have_the_network : EditedFilesHaveTheNetwork
edited_files_have_the_network =
    edited-network (edited-sited (λ text lines cs are stand. have-list-lines text lines cs are stand) edit-sites-there (can-be-patched sequences) (sites-good sequences) commands-grow)
