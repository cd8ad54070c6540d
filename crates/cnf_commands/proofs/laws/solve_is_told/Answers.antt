use Rattle.cnf_commands.proofs.SolveHeadline.{solve_told}
use Rattle.cnf_commands.proofs.laws.solve_is_told.Goals as goal

pub returns : goal.returns
returns c = solve_told
