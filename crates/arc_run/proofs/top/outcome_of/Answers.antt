use Rattle.std.proofs.Common.{arith}
use Rattle.arc_run.proofs.Owns.{own_small}
use Rattle.arc_run.proofs.top.outcome_of.Goals as goal

pub returns-in-Ok-clause-small : goal.returns-in-Ok-clause-small
returns-in-Ok-clause-small g c = omega (arith, own_small c.args.command.now c.in-Ok.done c.in-Ok.ensures.answer.0)
