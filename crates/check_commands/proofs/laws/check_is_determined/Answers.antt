use Rattle.check_commands.proofs.OneReport.{checked_once, refused_once, checked_or_refused}
use Rattle.check_commands.proofs.laws.check_is_determined.Goals as goal

pub returns-clause-one_answer : goal.returns-clause-one_answer
returns-clause-one_answer c = checked_once

pub returns-clause-one_refusal : goal.returns-clause-one_refusal
returns-clause-one_refusal c = refused_once

pub returns-clause-not_both : goal.returns-clause-not_both
returns-clause-not_both c = checked_or_refused
