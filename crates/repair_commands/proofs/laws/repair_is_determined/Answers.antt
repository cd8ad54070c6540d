use Rattle.repair_commands.proofs.Determined.{one_repair_refusal}
use Rattle.repair_commands.proofs.Told.{answered_or_refused}
use Rattle.repair_commands.proofs.laws.repair_is_determined.Goals as goal

pub returns-clause-one_refusal : goal.returns-clause-one_refusal
returns-clause-one_refusal c = one_repair_refusal

pub returns-clause-not_both : goal.returns-clause-not_both
returns-clause-not_both c = λ words files done r is refused. answered_or_refused words files done is r refused
