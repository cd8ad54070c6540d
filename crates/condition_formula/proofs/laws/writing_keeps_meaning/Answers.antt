use Rattle.condition_formula.proofs.Joined.{writing_keeps_meaning as proved}
use Rattle.condition_formula.proofs.laws.writing_keeps_meaning.Goals as goal

pub returns : goal.returns
returns c = proved
