use Rattle.cnf_commands.proofs.FormulaVariables.{formula_is_good}
use Rattle.call_tests.proofs.searches.lemmas_are_dropped_after_1500.Goals as goal

pub core_and_log-requires-clause-variables : goal.core_and_log-requires-clause-variables
core_and_log-requires-clause-variables g c = (formula_is_good c.as_bytes.result.now c.in_ok-formula.formula c.in_ok-formula.ensures.formula).0

pub core_and_log-requires-clause-few : goal.core_and_log-requires-clause-few
core_and_log-requires-clause-few g c = (formula_is_good c.as_bytes.result.now c.in_ok-formula.formula c.in_ok-formula.ensures.formula).1
