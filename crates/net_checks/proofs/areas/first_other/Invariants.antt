use Rattle.ios_config.specs.Least.{FindsLeast}
use Rattle.net_rules.specs.Routers.{IsOther}
use Rattle.net_rules.proofs.Leasts.{LinesTo}
use Rattle.net_checks.proofs.areas.first_other.Given as goal

abbrev pub invariant-loop-given : goal.invariant-loop-given
invariant-loop-given l = FindsLeast (LinesTo (IsOther l.area) l.areas l.given-index) l.least
