use Rattle.check_commands.proofs.OneCheck as lemmas
use Rattle.check_commands.proofs.laws.any_check_is_determined.Goals as goal

pub returns-clause-one_answer : goal.returns-clause-one_answer
returns-clause-one_answer c document certificate files = lemmas.one_answer document certificate files c.outcome_is_unique.ensures

pub returns-clause-one_refusal : goal.returns-clause-one_refusal
returns-clause-one_refusal c = lemmas.one_refusal

pub returns-clause-not_both : goal.returns-clause-not_both
returns-clause-not_both c = lemmas.not_both
