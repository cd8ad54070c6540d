use Rattle.std.proofs.Common.{◌≡◌, ◌∷◌, length}
use Rattle.file_copies.specs.Outputs.{clashes}
use Rattle.file_copies.proofs.outputs.clashes.Given as goal

abbrev pub invariant-loop-rest : goal.invariant-loop-rest
invariant-loop-rest l = clashes (l.document ∷ l.routers) l.outputs ≡ clashes (l.document ∷ l.routers) l.rest

abbrev pub decreases-loop-rest : goal.decreases-loop-rest
decreases-loop-rest l = length l.rest
