-- What a read of a list says.
use Rattle.std.proofs.Common.{◌≡◌, ℕ, Some, List, length, refl, sym}
use Rattle.std.specs.Prelude.{slice_get, Contains}
use Rattle.std.proofs.lemmas.Option.{slice_get_read, slice_get_within, get_or_from_slice_get}

-- an item of the list stands at a place
pub place_of_item : {X : Type 0} (xs : List X) (x : X) → Contains xs x → (k : ℕ) × (slice_get xs k ≡ Some x)
place_of_item xs x one = (one.0, slice_get_read xs (length xs) (one.0) x refl (one.1) (sym (one.2)))

pub item_at_place : {X : Type 0} (xs : List X) (k : ℕ) (x : X) → slice_get xs k ≡ Some x → Contains xs x
item_at_place xs k x at = (k, slice_get_within xs k x at, get_or_from_slice_get xs k x x at)
