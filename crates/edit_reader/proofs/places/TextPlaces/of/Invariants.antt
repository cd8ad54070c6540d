use Rattle.std.proofs.Common.{◌≡◌, ℕ, List, take}
use Rattle.std.specs.Prelude.{bytes_eq}
use Rattle.std.specs.List.{position}
use Rattle.edit_reader.specs.Places.{place_of}
use Rattle.edit_reader.proofs.places.TextPlaces.of.Given as goal

abbrev pub invariant-loop-place : goal.invariant-loop-place
invariant-loop-place l = (text : List ℕ) → place_of l.found text ≡ position (λ t. bytes_eq t text) (take l.place l.texts)
