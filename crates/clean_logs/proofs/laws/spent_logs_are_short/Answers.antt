use Rattle.clean_logs.proofs.ShortLogs.{spent_logs_are_short}
use Rattle.clean_logs.proofs.laws.spent_logs_are_short.Goals as goal

pub returns : goal.returns
returns c = spent_logs_are_short
