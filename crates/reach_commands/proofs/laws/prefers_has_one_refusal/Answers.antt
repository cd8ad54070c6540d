use Rattle.reach_commands.proofs.PrefersTold.{refused_once, held_or_refused}
use Rattle.reach_commands.proofs.laws.prefers_has_one_refusal.Goals as goal

pub returns-clause-one_refusal : goal.returns-clause-one_refusal
returns-clause-one_refusal c = refused_once

pub returns-clause-not_both : goal.returns-clause-not_both
returns-clause-not_both c words files done r t refused = held_or_refused words files t.doc t.net t.wanted t.input t.ends t.named t.classes r refused
