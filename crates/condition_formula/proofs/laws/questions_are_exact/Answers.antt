use Rattle.condition_formula.proofs.Joined.{questions_are_exact as proved}
use Rattle.condition_formula.proofs.laws.questions_are_exact.Goals as goal

pub returns : goal.returns
returns c = proved
