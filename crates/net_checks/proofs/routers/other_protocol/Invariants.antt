use Rattle.ios_config.specs.Least.{FindsLeast}
use Rattle.net_rules.specs.Routers.{RunsOther}
use Rattle.net_rules.proofs.Leasts.{LinesTo}
use Rattle.net_checks.proofs.routers.other_protocol.Given as goal

abbrev pub invariant-loop-process : goal.invariant-loop-process
invariant-loop-process l = FindsLeast (LinesTo (RunsOther l.protocol) l.process-items l.process-index) l.line
