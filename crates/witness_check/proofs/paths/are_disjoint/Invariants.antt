use Rattle.std.proofs.Common.{drop}
use Rattle.std.specs.Prelude.{◌↔◌, AllPairs}
use Rattle.std.specs.List.{flat_map}
use Rattle.witness_check.specs.Paths.{AreApart}
use Rattle.witness_check.proofs.paths.are_disjoint.Given as goal

abbrev pub invariant-loop-place : goal.invariant-loop-place
invariant-loop-place l = AllPairs AreApart (flat_map (λ path. path.links) l.paths) ↔ AllPairs AreApart (flat_map (λ path. path.links) (drop l.place l.paths))
