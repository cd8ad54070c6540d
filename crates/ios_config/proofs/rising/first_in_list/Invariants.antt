use Rattle.std.proofs.Common.{take}
use Rattle.ios_config.specs.Least.{FindsLeast}
use Rattle.ios_config.specs.Rising.{FallsAt}
use Rattle.ios_config.proofs.rising.first_in_list.Given as goal

abbrev pub invariant-loop-place : goal.invariant-loop-place
invariant-loop-place l = FindsLeast (FallsAt (take l.place l.entries)) l.found
