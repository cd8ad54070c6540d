use Rattle.arc_recheck.proofs.OneAnswer.{right_answers_are_one}
use Rattle.arc_recheck.proofs.laws.right_answers_are_one.Goals as goal

pub returns : goal.returns
returns c = right_answers_are_one
