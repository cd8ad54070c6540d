use Rattle.condition_formula.proofs.Within.{formulas_are_over_variables as proved}
use Rattle.condition_formula.proofs.laws.formulas_are_over_variables.Goals as goal

pub returns : goal.returns
returns c = proved
