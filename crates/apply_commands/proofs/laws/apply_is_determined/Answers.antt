use Rattle.apply_commands.proofs.Determined.{applied_or_refused, one_apply_refusal}
use Rattle.apply_commands.proofs.Told.{can_be}
use Rattle.apply_commands.proofs.laws.apply_is_determined.Goals as goal

pub returns-clause-one_refusal : goal.returns-clause-one_refusal
returns-clause-one_refusal c = one_apply_refusal

pub returns-clause-not_both : goal.returns-clause-not_both
returns-clause-not_both c = λ words files done r is refused. applied_or_refused words files (can_be words files done is) r refused
