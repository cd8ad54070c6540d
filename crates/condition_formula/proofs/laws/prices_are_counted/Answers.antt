use Rattle.condition_formula.proofs.Joined.{prices_are_counted as proved}
use Rattle.condition_formula.proofs.laws.prices_are_counted.Goals as goal

pub returns : goal.returns
returns c = proved
