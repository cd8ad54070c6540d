use Rattle.patch_laws.proofs.PatchedSites.{patched-sites}
use Rattle.patch_laws.proofs.laws.patched_texts_have_sites.Goals as goal

pub returns : goal.returns
returns c = patched-sites
