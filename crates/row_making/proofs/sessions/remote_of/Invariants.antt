use Rattle.std.proofs.Common.{◌≡◌, take}
use Rattle.net_rules.specs.Settings.{last_said}
use Rattle.net_rules.specs.Neighbors.{says_remote}
use Rattle.row_making.proofs.sessions.remote_of.Given as goal

abbrev pub invariant-loop-line : goal.invariant-loop-line
invariant-loop-line l = l.last ≡ last_said (says_remote l.peer) (take l.line-index l.lines)
