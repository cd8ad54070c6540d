use Rattle.std.proofs.Common.{◌≡◌, take}
use Rattle.net_rules.specs.Settings.{last_said, says_reference}
use Rattle.row_making.proofs.process_index.reference.Given as goal

abbrev pub invariant-loop-line : goal.invariant-loop-line
invariant-loop-line l = l.last ≡ last_said says_reference (take l.line-index l.lines)
