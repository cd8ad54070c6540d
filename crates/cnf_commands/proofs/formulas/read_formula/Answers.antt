use Rattle.cnf_commands.proofs.FormulaVariables.{formula_is_good}
use Rattle.cnf_commands.proofs.formulas.read_formula.Goals as goal

pub returns-in-Ok-clause-variables : goal.returns-in-Ok-clause-variables
returns-in-Ok-clause-variables g c = (formula_is_good c.as_slice.result.now c.in-Ok.formula c.in-Ok.ensures.formula).0

pub returns-in-Ok-clause-few : goal.returns-in-Ok-clause-few
returns-in-Ok-clause-few g c = (formula_is_good c.as_slice.result.now c.in-Ok.formula c.in-Ok.ensures.formula).1
