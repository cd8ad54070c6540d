use Rattle.settings_edit_laws.proofs.Untouched.{untouched}
use Rattle.settings_edit_laws.proofs.laws.untouched_files_stay.Goals as goal

pub returns : goal.returns
returns c net chosen router config u = untouched net chosen router u config
