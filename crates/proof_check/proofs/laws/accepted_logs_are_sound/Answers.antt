use Rattle.proof_check.proofs.SoundLogs.{sound}
use Rattle.proof_check.proofs.laws.accepted_logs_are_sound.Goals as goal

pub returns : goal.returns
returns c = sound
