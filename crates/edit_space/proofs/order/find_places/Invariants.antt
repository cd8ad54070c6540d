use Rattle.std.proofs.Common.{◌≡◌, ◌<◌, ℕ, length, Some}
use Rattle.std.specs.Prelude.{slice_get}
use Rattle.edit_space.specs.declared.order.Keyed.{Keyed}
use Rattle.edit_space.specs.Working.{PlacesTell}
use Rattle.edit_space.proofs.order.find_places.Given as goal

abbrev pub invariant-loop-place : goal.invariant-loop-place
invariant-loop-place l = record {
  told : (k : ℕ) (list : Keyed) → k < l.place → slice_get l.lists k ≡ Some list → PlacesTell l.places list.site k;
  bound : length l.places.bound.items ≡ l.bound;
  new : length l.places.new.items ≡ l.faces;
}
