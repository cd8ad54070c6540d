use Rattle.proof_check.proofs.checker.Checker.step.Goals as goal

pub returns-in-Drop-clause-fault : goal.returns-in-Drop-clause-fault
returns-in-Drop-clause-fault c = rw (c.in-Drop.is, ← c.slice-in-Drop.ensures.items) c.forget.ensures.fault
