use Rattle.arc_repair.proofs.Exact as exact
use Rattle.arc_repair.proofs.laws.checks_are_exact.Goals as goal

pub returns-clause-exact : goal.returns-clause-exact
returns-clause-exact c = exact.checks_are_exact

pub returns-clause-passes : goal.returns-clause-passes
returns-clause-passes c = exact.certificates_pass c.one_formula.ensures
