use Rattle.verify_commands.proofs.Traced.{trace_told}
use Rattle.verify_commands.proofs.laws.trace_is_told.Goals as goal

pub returns : goal.returns
returns c = trace_told
