use Rattle.std.proofs.Common.{◌-◌, ◌≤◌}
use Rattle.ios_lines.specs.Words.{AreBlank}
use Rattle.ios_lines.proofs.words.blanks_end.Given as goal

abbrev pub invariant-loop-at : goal.invariant-loop-at
invariant-loop-at l = record { after : l.from ≤ l.at; within : l.at ≤ l.to; blank : AreBlank l.bytes l.from l.at }

abbrev pub decreases-loop-at : goal.decreases-loop-at
decreases-loop-at l = l.to - l.at
