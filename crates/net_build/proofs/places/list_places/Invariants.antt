use Rattle.std.proofs.Common.{◌≡◌, take}
use Rattle.std.specs.Prelude.{map}
use Rattle.net_build.specs.Places.{list_place}
use Rattle.net_build.proofs.places.list_places.Given as goal

abbrev pub invariant-loop-list : goal.invariant-loop-list
invariant-loop-list l = l.places ≡ map list_place (take l.list-index l.list-items)
