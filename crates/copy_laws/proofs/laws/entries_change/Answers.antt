use Rattle.copy_laws.proofs.Changed.{more_pass, fewer_pass, conditions_narrow, plain_is_model, acting_decides, more_pass_bound, fewer_pass_bound, last_entry_counts, first_entry_counts}
use Rattle.copy_laws.proofs.Made.{wider_permit, narrower_permit, wider_keep, narrower_keep}
use Rattle.copy_laws.proofs.laws.entries_change.Goals as goal

pub returns-clause-more : goal.returns-clause-more
returns-clause-more c = more_pass

pub returns-clause-fewer : goal.returns-clause-fewer
returns-clause-fewer c = fewer_pass

pub returns-clause-narrow : goal.returns-clause-narrow
returns-clause-narrow c = conditions_narrow

pub returns-clause-plain : goal.returns-clause-plain
returns-clause-plain c = plain_is_model

pub returns-clause-acting : goal.returns-clause-acting
returns-clause-acting c = acting_decides

pub returns-clause-more_bound : goal.returns-clause-more_bound
returns-clause-more_bound c = more_pass_bound

pub returns-clause-fewer_bound : goal.returns-clause-fewer_bound
returns-clause-fewer_bound c = fewer_pass_bound

pub returns-clause-last : goal.returns-clause-last
returns-clause-last c = last_entry_counts

pub returns-clause-first : goal.returns-clause-first
returns-clause-first c = first_entry_counts

pub returns-clause-wider : goal.returns-clause-wider
returns-clause-wider c = wider_permit

pub returns-clause-narrower : goal.returns-clause-narrower
returns-clause-narrower c = narrower_permit

pub returns-clause-barred : goal.returns-clause-barred
returns-clause-barred c = wider_keep

pub returns-clause-reach : goal.returns-clause-reach
returns-clause-reach c = narrower_keep
