use Rattle.std.proofs.Common.{take}
use Rattle.net_checks.specs.Claims.{AreClaimsOf}
use Rattle.net_checks.proofs.overlap.claims.Given as goal

abbrev pub invariant-loop-place : goal.invariant-loop-place
invariant-loop-place l = AreClaimsOf (take l.place l.faces) l.partners l.claims.items
