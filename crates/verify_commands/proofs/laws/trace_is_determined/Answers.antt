use Rattle.verify_commands.proofs.OneTrace.{traced_once, refused_once, traced_or_refused}
use Rattle.verify_commands.proofs.laws.trace_is_determined.Goals as goal

pub returns-clause-one_trace : goal.returns-clause-one_trace
returns-clause-one_trace c = traced_once

pub returns-clause-one_refusal : goal.returns-clause-one_refusal
returns-clause-one_refusal c = refused_once

pub returns-clause-not_both : goal.returns-clause-not_both
returns-clause-not_both c = traced_or_refused
