use Rattle.patch_laws.proofs.EditFit.{can-be-patched}
use Rattle.patch_laws.proofs.EditGood.{sites-good}
use Rattle.patch_laws.proofs.EditGrowth.{commands-grow}
use Rattle.patch_laws.proofs.EditSequences.{sequences}
use Rattle.patch_laws.proofs.EditThere.{edit-sites-there}
use Rattle.patch_laws.proofs.laws.edits_are_sites.Goals as goal

pub returns-clause-there : goal.returns-clause-there
returns-clause-there c = edit-sites-there

pub returns-clause-can : goal.returns-clause-can
returns-clause-can c = can-be-patched sequences

pub returns-clause-good : goal.returns-clause-good
returns-clause-good c = sites-good sequences

pub returns-clause-grown : goal.returns-clause-grown
returns-clause-grown c = commands-grow
