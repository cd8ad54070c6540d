use Rattle.std.proofs.Common.{◌≡◌, take}
use Rattle.std.specs.Prelude.{map}
use Rattle.net_build.specs.Places.{face_place}
use Rattle.net_build.proofs.places.face_places.Given as goal

abbrev pub invariant-loop-face : goal.invariant-loop-face
invariant-loop-face l = l.places ≡ map face_place (take l.face-index l.face-items)
