use Rattle.ios_config.specs.Least.{FindsLeast}
use Rattle.net_rules.specs.Peers.{TellsUnconnected}
use Rattle.net_rules.proofs.Leasts.{LinesTo}
use Rattle.net_checks.proofs.peers.unconnected.Given as goal

abbrev pub invariant-loop-line : goal.invariant-loop-line
invariant-loop-line l = FindsLeast (LinesTo (TellsUnconnected l.config) l.line-items l.line-index) l.least
