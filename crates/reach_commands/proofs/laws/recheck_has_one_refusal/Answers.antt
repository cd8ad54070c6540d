use Rattle.reach_commands.proofs.RecheckTold.{refused_once, held_or_refused}
use Rattle.reach_commands.proofs.laws.recheck_has_one_refusal.Goals as goal

pub returns-clause-one_refusal : goal.returns-clause-one_refusal
returns-clause-one_refusal c = refused_once

pub returns-clause-not_both : goal.returns-clause-not_both
returns-clause-not_both c words files done r t refused = held_or_refused words files t.doc t.net t.input t.held t.classes r refused
