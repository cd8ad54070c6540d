use Rattle.patch_laws.proofs.EditFit.{can-be-patched}
use Rattle.patch_laws.proofs.EditGood.{sites-good}
use Rattle.patch_laws.proofs.EditGrowth.{commands-grow}
use Rattle.patch_laws.proofs.EditPremises.{session-network}
use Rattle.patch_laws.proofs.EditSequences.{sequences}
use Rattle.patch_laws.proofs.EditThere.{edit-sites-there}
use Rattle.patch_laws.proofs.EditTops.{have-list-lines}
use Rattle.patch_laws.proofs.laws.session_files_have_the_network.Goals as goal

pub returns : goal.returns
returns c = session-network (λ text lines cs are stand. have-list-lines text lines cs are stand) edit-sites-there (can-be-patched sequences) (sites-good sequences) commands-grow
