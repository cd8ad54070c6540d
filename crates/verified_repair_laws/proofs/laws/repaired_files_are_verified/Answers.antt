use Rattle.verified_repair_laws.proofs.Held.{repaired_files_are_verified}
use Rattle.verified_repair_laws.proofs.laws.repaired_files_are_verified.Goals as goal

pub returns : goal.returns
returns c = repaired_files_are_verified c.patched_files_are_short.ensures c.edits_keep_classes.ensures.all_classes
