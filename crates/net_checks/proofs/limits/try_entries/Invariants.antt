use Rattle.net_checks.proofs.LimitsKept.{ShortListsTo}
use Rattle.net_checks.proofs.limits.try_entries.Given as goal

abbrev pub invariant-loop-place : goal.invariant-loop-place
invariant-loop-place l = ShortListsTo l.fn.most_entries l.config-items l.place
