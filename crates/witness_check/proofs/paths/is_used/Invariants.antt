use Rattle.std.proofs.Common.{drop}
use Rattle.std.specs.Prelude.{◌↔◌, Contains}
use Rattle.std.specs.List.{flat_map}
use Rattle.witness_check.proofs.paths.is_used.Given as goal

abbrev pub invariant-loop-path : goal.invariant-loop-path
invariant-loop-path l = Contains (flat_map (λ path. path.links) l.paths) l.link ↔ Contains (flat_map (λ path. path.links) (drop l.path-index l.paths)) l.link
