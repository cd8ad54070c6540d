use Rattle.patch_size_laws.proofs.Files.{patched_files_are_short}
use Rattle.patch_size_laws.proofs.laws.patched_files_are_short.Goals as goal

pub returns : goal.returns
returns c = patched_files_are_short
