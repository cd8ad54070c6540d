use Rattle.std.proofs.Common.{◌≡◌, take, map}
use Rattle.std.specs.Prelude.{is_some}
use Rattle.verdicts.proofs.sides.side_of.Given as goal

abbrev pub invariant-loop-router : goal.invariant-loop-router
invariant-loop-router l = l.side ≡ map is_some (take l.router l.closure)
