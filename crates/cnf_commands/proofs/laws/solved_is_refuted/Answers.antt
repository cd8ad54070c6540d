use Rattle.cnf_commands.proofs.SolveHeadline.{solved_is_refuted}
use Rattle.cnf_commands.proofs.laws.solved_is_refuted.Goals as goal

pub returns : goal.returns
returns c = solved_is_refuted
