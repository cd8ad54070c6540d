use Rattle.ios_config.specs.Least.{FindsLeast}
use Rattle.net_rules.specs.Peers.{NamesOther}
use Rattle.net_checks.specs.FarEnds.{IsListed}
use Rattle.net_rules.proofs.Leasts.{LinesTo}
use Rattle.net_checks.proofs.peers.unknown_peer.Given as goal

abbrev pub invariant-loop-line : goal.invariant-loop-line
invariant-loop-line l = FindsLeast (LinesTo (NamesOther (IsListed l.ends.keys l.remotes.keys l.router)) l.lines l.line-index) l.least
