use Rattle.net_build.proofs.AppendedLines.{passive-counts, neighbor-counts, binding-counts}
use Rattle.net_build.proofs.laws.the_last_line_counts.Goals as goal

pub returns-clause-passive : goal.returns-clause-passive
returns-clause-passive c = passive-counts

pub returns-clause-neighbor : goal.returns-clause-neighbor
returns-clause-neighbor c = neighbor-counts

pub returns-clause-binding : goal.returns-clause-binding
returns-clause-binding c = binding-counts
