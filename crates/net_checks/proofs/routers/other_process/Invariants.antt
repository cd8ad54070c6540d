use Rattle.ios_config.specs.Least.{FindsLeast}
use Rattle.net_rules.specs.Routers.{NamesOtherProcess}
use Rattle.net_rules.proofs.Leasts.{LinesTo}
use Rattle.net_checks.proofs.routers.other_process.Given as goal

abbrev pub invariant-loop-face : goal.invariant-loop-face
invariant-loop-face l = FindsLeast (LinesTo (NamesOtherProcess l.process) l.face-items l.face-index) l.line
