use Rattle.reach_copy_laws.proofs.Past.{fewer_keeps_past, fewer_keeps_past_really}
use Rattle.reach_copy_laws.proofs.Preferred.{fewer_keeps_preferred, fewer_keeps_preferred_really}
use Rattle.reach_copy_laws.proofs.laws.fewer_packets_pass.Goals as goal

pub returns-clause-past : goal.returns-clause-past
returns-clause-past c = fewer_keeps_past

pub returns-clause-past_really : goal.returns-clause-past_really
returns-clause-past_really c = fewer_keeps_past_really

pub returns-clause-preferred : goal.returns-clause-preferred
returns-clause-preferred c = fewer_keeps_preferred

pub returns-clause-preferred_really : goal.returns-clause-preferred_really
returns-clause-preferred_really c = fewer_keeps_preferred_really
