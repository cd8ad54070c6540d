use Rattle.net_checks.proofs.LimitsKept.{FewFacesTo}
use Rattle.net_checks.proofs.limits.try_interfaces.Given as goal

abbrev pub invariant-loop-place : goal.invariant-loop-place
invariant-loop-place l = FewFacesTo l.config-items l.place
