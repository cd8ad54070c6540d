use Rattle.std.proofs.Common.{◌≡◌, take}
use Rattle.std.specs.List.{flat_map}
use Rattle.net_build.specs.declared.built.Places.{Places}
use Rattle.line_patcher.proofs.plans.face_places.Given as goal

abbrev pub invariant-loop-own : goal.invariant-loop-own
invariant-loop-own l = l.faces.items ≡ flat_map (λ (own : Places). own.faces) (take l.own-index l.places)
