use Rattle.std.proofs.Common.{◌≡◌}
use Rattle.sat_core.specs.Forgotten.{moved_entry}
use Rattle.sat_core.proofs.Moved.{mixed}
use Rattle.sat_core.proofs.trail.rename.Given as goal

abbrev pub invariant-loop-place : goal.invariant-loop-place
invariant-loop-place l = l.entries ≡ mixed (moved_entry l.last l.at) l.place l.initial.entries
