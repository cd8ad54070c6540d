use Rattle.refusal_order_laws.proofs.Firsts.{texts-blocks, settings-answer}
use Rattle.refusal_order_laws.proofs.laws.no_gap_is_left.Goals as goal

pub returns-clause-blocks : goal.returns-clause-blocks
returns-clause-blocks c = texts-blocks

pub returns-clause-answer : goal.returns-clause-answer
returns-clause-answer c = settings-answer
