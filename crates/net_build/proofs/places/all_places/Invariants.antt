use Rattle.std.proofs.Common.{◌≡◌, take}
use Rattle.std.specs.Prelude.{map}
use Rattle.net_build.specs.Places.{places_of}
use Rattle.net_build.proofs.places.all_places.Given as goal

abbrev pub invariant-loop-config : goal.invariant-loop-config
invariant-loop-config l = l.places ≡ map places_of (take l.config-index l.config-items)
