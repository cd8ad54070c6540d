use Rattle.patch_laws.proofs.GrownSettings.{grown-are-after}
use Rattle.patch_laws.proofs.laws.grown_settings_are_after.Goals as goal

pub returns : goal.returns
returns c = grown-are-after
