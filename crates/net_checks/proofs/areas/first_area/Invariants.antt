use Rattle.net_checks.proofs.AreaLines.{NoAreaTo}
use Rattle.net_checks.proofs.areas.first_area.Given as goal

abbrev pub invariant-loop-config : goal.invariant-loop-config
invariant-loop-config l = NoAreaTo l.config-items l.config-index
