use Rattle.run_inputs.proofs.Determined.{determined, judged_once}
use Rattle.run_inputs.proofs.laws.input_is_determined.Goals as goal

pub returns-clause-input : goal.returns-clause-input
returns-clause-input c = determined

pub returns-clause-judged : goal.returns-clause-judged
returns-clause-judged c = judged_once
