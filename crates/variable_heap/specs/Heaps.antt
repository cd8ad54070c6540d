-- Heaps of variables, and when they are in order.
use Rattle.std.specs.Prelude.{◌≡◌, ◌≢◌, ℕ, ◌+◌, ◌*◌, ◌<◌, ◌≤◌, ◌⊎◌, ◌↔◌, List, [], length}
use Rattle.std.specs.Prelude.{slice_index, All, Contains}

-- the first variable is more active than the other, or as active and lower
abbrev pub ComesBefore : List ℕ → ℕ → ℕ → Type 0
ComesBefore activity one other =
    (slice_index activity other < slice_index activity one) ⊎
    ((slice_index activity one ≡ slice_index activity other) × (one < other))

-- the activity of the variable at a place
abbrev pub active_at : List ℕ → List ℕ → ℕ → ℕ
active_at activity vars place = slice_index activity (slice_index vars place)

-- the second place is one of the two below the first
abbrev pub IsAbove : ℕ → ℕ → Type 0
IsAbove above below = (2 * above < below) × (below ≤ 2 * above + 2)

-- no variable is more active than the one above it
abbrev pub IsOrdered : List ℕ → List ℕ → Type 0
IsOrdered activity vars =
    (above below : ℕ) → IsAbove above below → below < length vars →
    active_at activity vars below ≤ active_at activity vars above

-- the variables below a place are not more active than the one above it
abbrev pub IsOrderedAround : List ℕ → List ℕ → ℕ → Type 0
IsOrderedAround activity vars place =
    (above below : ℕ) → IsAbove above place → IsAbove place below → below < length vars →
    active_at activity vars below ≤ active_at activity vars above

-- no variable is more active than the one above it, but for the one at a place
pub record IsOrderedButUp (activity vars : List ℕ) (place : ℕ) : Type 0 where
  pub others : (above below : ℕ) → IsAbove above below → below < length vars → below ≢ place →
      active_at activity vars below ≤ active_at activity vars above
  pub around : IsOrderedAround activity vars place

-- no variable is more active than the one above it, but for those below a place
pub record IsOrderedButDown (activity vars : List ℕ) (place : ℕ) : Type 0 where
  pub others : (above below : ℕ) → IsAbove above below → below < length vars → above ≢ place →
      active_at activity vars below ≤ active_at activity vars above
  pub around : IsOrderedAround activity vars place

-- a place below another, of whose two the variable there is the more active
pub record IsFirstBelow (activity vars : List ℕ) (place first : ℕ) : Type 0 where
  pub below : IsAbove place first
  pub within : first < length vars
  pub most : (other : ℕ) → IsAbove place other → other < length vars →
      active_at activity vars other ≤ active_at activity vars first

-- the place of each variable of the list is one more than where it is, and no other variable has
-- one
pub record IsInverse (vars places : List ℕ) : Type 0 where
  pub placed : (k : ℕ) → k < length vars → slice_index places (slice_index vars k) ≡ k + 1
  pub within : (v k : ℕ) → slice_index places v ≡ k + 1 → k < length vars
  pub stands : (v k : ℕ) → slice_index places v ≡ k + 1 → slice_index vars k ≡ v

-- the same variables have a place
abbrev pub HaveSamePlaced : List ℕ → List ℕ → Type 0
HaveSamePlaced old new = (v : ℕ) → (slice_index old v ≡ 0) ↔ (slice_index new v ≡ 0)

-- the variables of a heap, and a number that they are below
pub record Heap : Type 0 where
  pub vars : List ℕ
  pub limit : ℕ

-- no variable was active yet
abbrev pub AreIdle : List ℕ → Type 0
AreIdle activity = (v : ℕ) → slice_index activity v ≡ 0

-- the heap was empty, and still is
pub record IsEmpty (old new : Heap) : Type 0 where
  pub none : old.vars ≡ []
  pub still : new.vars ≡ []

-- the variable was in the heap, where none was more active, and it alone left
pub record IsTaken (activity : List ℕ) (old new : Heap) (var : ℕ) : Type 0 where
  pub held : Contains old.vars var
  pub least : 1 ≤ var
  pub below : var < old.limit
  pub most : All (λ w. slice_index activity w ≤ slice_index activity var) old.vars
  pub gone : (w : ℕ) → Contains new.vars w ↔ (Contains old.vars w × (w ≢ var))
  pub fewer : length new.vars + 1 ≡ length old.vars

-- the lists have the same variables
abbrev pub HaveSame : List ℕ → List ℕ → Type 0
HaveSame old new = (w : ℕ) → Contains old w ↔ Contains new w

-- the variable, and no other, became more active, or as active as it was
pub record IsRaised (old new : List ℕ) (var : ℕ) : Type 0 where
  pub raised : slice_index old var ≤ slice_index new var
  pub others : (w : ℕ) → w ≢ var → slice_index new w ≡ slice_index old w
