use Rattle.std.proofs.Common.{take}
use Rattle.net_checks.specs.Growing.{IsSoonest}
use Rattle.net_checks.proofs.areas.soonest.Given as goal

abbrev pub invariant-loop-area : goal.invariant-loop-area
invariant-loop-area l = IsSoonest (take l.area-index l.areas) l.first
