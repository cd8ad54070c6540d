use Rattle.generate_commands.proofs.Told.{one_generate_refusal, summed_or_refused}
use Rattle.generate_commands.proofs.laws.generate_is_determined.Goals as goal

pub returns-clause-one_refusal : goal.returns-clause-one_refusal
returns-clause-one_refusal c = one_generate_refusal

pub returns-clause-not_both : goal.returns-clause-not_both
returns-clause-not_both c = λ words done r is refused. summed_or_refused words done is r refused
