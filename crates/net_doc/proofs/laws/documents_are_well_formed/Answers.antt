use Rattle.net_doc.proofs.Forms.{well_formed}
use Rattle.net_doc.proofs.laws.documents_are_well_formed.Goals as goal

pub returns : goal.returns
returns c = well_formed
