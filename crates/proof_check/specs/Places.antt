-- Clauses one after another among literals.
use Rattle.std.specs.Prelude.{◌≡◌, ℕ, ◌+◌, ◌-◌, ◌/◌, ◌<◌, ◌≤◌, ◌==◌, max, if◌then◌else◌, All, List}
use Rattle.std.specs.Prelude.{[], ◌∷◌, length, take, drop, sum_by, Option, Some, None}
use Rattle.cnf_types.specs.declared.literal.Lit.{Lit}
use Rattle.proof_check.specs.declared.tables.Place.{Place}

-- a place among `count` literals
pub record IsPlace (count : ℕ) (place : Place) : Type 0 where
  pub start : place.start ≤ place.stop - 1
  pub stop : place.stop ≤ count + 1

-- the place of no clause
abbrev pub nowhere : Place
nowhere = record { start = 0; stop = 0 }

-- how many literals are at a place
abbrev pub size : Place → ℕ
size place = place.stop - 1 - place.start

-- the clause at a place, if there is one
abbrev pub clause_at : List Lit → Place → Option (List Lit)
clause_at lits place =
    if place.stop == 0 then None
    else Some (take (place.stop - 1 - place.start) (drop place.start lits))

-- each clause begins behind those before it, and none before this literal
abbrev pub IsRising : ℕ → List Place → Type 0
IsRising from [] = Unit {0}
IsRising from (p ∷ ps) = (0 < p.stop → from ≤ p.start) × IsRising (max from (p.stop - 1)) ps

-- all literals but the dropped ones belong to a clause of their own, and the dropped ones are at
-- most half of them or as many as the places
pub record IsTidy (lits : List Lit) (places : List Place) (dropped : ℕ) : Type 0 where
  pub within : All (IsPlace (length lits)) places
  pub rising : IsRising 0 places
  pub room : length lits ≡ dropped + sum_by size places
  pub dense : dropped ≤ max (length lits / 2) (length places)
