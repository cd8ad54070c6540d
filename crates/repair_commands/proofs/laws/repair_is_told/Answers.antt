use Rattle.repair_commands.proofs.Told.{edits_told, repair_told}
use Rattle.repair_commands.proofs.laws.repair_is_told.Goals as goal

pub returns-clause-status : goal.returns-clause-status
returns-clause-status c = repair_told

pub returns-clause-text : goal.returns-clause-text
returns-clause-text c = edits_told
