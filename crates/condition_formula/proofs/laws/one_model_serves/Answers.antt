use Rattle.condition_formula.proofs.Joined.{one_model_serves as proved}
use Rattle.condition_formula.proofs.laws.one_model_serves.Goals as goal

pub returns : goal.returns
returns c = proved
