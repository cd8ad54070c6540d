use Rattle.condition_formula.proofs.Joined.{models_are_repairs as proved}
use Rattle.condition_formula.proofs.laws.models_are_repairs.Goals as goal

pub returns : goal.returns
returns c = proved
