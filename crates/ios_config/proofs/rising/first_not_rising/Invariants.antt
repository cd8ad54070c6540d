use Rattle.std.proofs.Common.{take}
use Rattle.ios_config.specs.Least.{FindsLeast}
use Rattle.ios_config.specs.Rising.{IsNotRising}
use Rattle.ios_config.proofs.rising.first_not_rising.Given as goal

abbrev pub invariant-loop-list : goal.invariant-loop-list
invariant-loop-list l = FindsLeast (IsNotRising (take l.list-index l.lists)) l.found
