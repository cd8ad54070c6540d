-- Items with numbers, such as that of a router or of a list, and lists that go together row
-- by row.
use Rattle.std.specs.Prelude.{◌≡◌, ◌==◌, ℕ, map, Bool, true, false, [], ◌∷◌, Option, Some, None}
use Rattle.std.specs.Prelude.{List, length, slice_get, if◌then◌else◌}
use Rattle.std.specs.List.{filter_map, flat_map, range_with_len, zip}

-- the items, each with its place
abbrev pub placed : {X : Type 0} → List X → List (ℕ × X)
placed xs = zip (range_with_len 0 (length xs)) xs

-- the item, if it has this number
abbrev pub if_number : {X : Type 0} → ℕ → ℕ × X → Option X
if_number number thing = if thing.0 == number then Some thing.1 else None

-- the items with this number, in their order
abbrev pub of_number : {X : Type 0} → ℕ → List (ℕ × X) → List X
of_number number things = filter_map (if_number number) things

-- the items with a number below the count: those with the number 0, then those with 1, and so on,
-- each in their order
abbrev pub by_number : {X : Type 0} → ℕ → List (ℕ × X) → List X
by_number count things = flat_map (λ number. of_number number things) (range_with_len 0 count)

-- the one list has a row for each row of the other, and the fact holds of each place and its two
-- rows
pub record EachRow {X Y : Type 0} (Holds : ℕ → X → Y → Type 0) (xs : List X)
    (ys : List Y) : Type 0 where
  pub whole : length ys ≡ length xs
  pub each : (place : ℕ) (x : X) (y : Y) → slice_get xs place ≡ Some x →
      slice_get ys place ≡ Some y → Holds place x y

-- the list has what the function gives for each number below the count
abbrev pub IsTableOf : {X : Type 0} → ℕ → (ℕ → X) → List X → Type 0
IsTableOf count f xs = xs ≡ map f (range_with_len 0 count)

-- whether the list has no items
abbrev pub is_empty : {X : Type 0} → List X → Bool
is_empty [] = true
is_empty (x ∷ xs) = false
