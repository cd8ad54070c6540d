use Rattle.proof_check.proofs.checker.Checker.read.Goals as goal

pub returns-clause-formula : goal.returns-clause-formula
returns-clause-formula c = rw c.in_ok-vars.ensures.formula c.in_ok-checker.ensures
