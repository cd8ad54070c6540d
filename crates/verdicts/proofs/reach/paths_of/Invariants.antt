use Rattle.std.proofs.Common.{◌≡◌, take}
use Rattle.verdicts.specs.Reaching.{paths_of}
use Rattle.verdicts.proofs.reach.paths_of.Given as goal

abbrev pub invariant-loop-row : goal.invariant-loop-row
invariant-loop-row l = l.paths ≡ paths_of (take l.row-index l.row-items)
