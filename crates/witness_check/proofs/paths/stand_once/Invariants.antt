use Rattle.std.proofs.Common.{drop}
use Rattle.std.specs.Prelude.{◌↔◌}
use Rattle.std.specs.List.{flat_map}
use Rattle.witness_check.specs.Paths.{StandOnce}
use Rattle.witness_check.proofs.paths.stand_once.Given as goal

abbrev pub invariant-loop-place : goal.invariant-loop-place
invariant-loop-place l = StandOnce l.links (flat_map (λ path. path.links) l.later) ↔ StandOnce (drop l.place l.links) (flat_map (λ path. path.links) l.later)
