use Rattle.settings_edit_laws.proofs.FittingEdits.{edits_fit}
use Rattle.settings_edit_laws.proofs.laws.edits_are_fitting.Goals as goal

pub returns : goal.returns
returns c net doc list flags valid ends are = edits_fit net valid doc ends list flags are
