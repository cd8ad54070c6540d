use Rattle.std.proofs.Common.{◌≡◌, ℕ, List, take}
use Rattle.net_rules.specs.Settings.{last_said, says_passive}
use Rattle.row_making.specs.Indexes.{said_of}
use Rattle.row_making.proofs.process_index.passive.Given as goal

abbrev pub invariant-loop-line : goal.invariant-loop-line
invariant-loop-line l = (name : List ℕ) → said_of l.passive name ≡ last_said (says_passive name) (take l.line-index l.lines)
