use Rattle.std.proofs.Common.{drop}
use Rattle.std.specs.Prelude.{◌↔◌}
use Rattle.witness_check.specs.Trails.{IsTrailOnce}
use Rattle.witness_check.proofs.cases.Case.goes_once.Given as goal

abbrev pub invariant-loop-place : goal.invariant-loop-place
invariant-loop-place l =
    IsTrailOnce l.self.net.now l.self.to l.self.source.now.router.0 l.links l.self.target.now.router.0 ↔ IsTrailOnce l.self.net.now l.self.to l.router.0 (drop
    l.place l.links) l.self.target.now.router.0
