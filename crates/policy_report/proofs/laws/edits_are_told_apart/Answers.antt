use Rattle.policy_report.proofs.EditsTold as lemmas
use Rattle.policy_report.proofs.laws.edits_are_told_apart.Goals as goal

pub returns : goal.returns
returns c = lemmas.edits_are_told_apart
