use Rattle.policy_report.proofs.EditsFound as lemmas
use Rattle.policy_report.proofs.laws.edit_texts_are_exact.Goals as goal

pub returns : goal.returns
returns c = lemmas.edit_texts_are_exact
