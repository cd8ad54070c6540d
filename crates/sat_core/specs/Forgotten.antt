-- States without a clause, whose place the last one takes.
use Rattle.std.specs.Prelude.{◌≡◌, ◌≢◌, ℕ, ◌-◌, ◌==◌, if◌then◌else◌, List, [], length, map, All}
use Rattle.std.specs.Prelude.{Option, Some, None}
use Rattle.std.specs.List.{swap_remove}
use Rattle.clause_pool.specs.declared.place.Place.{Place}
use Rattle.clause_pool.specs.Pools.{Entry, State as PoolState, IsSound as IsSoundPool, IsFreshId}
use Rattle.clause_pool.specs.Pools.{clause_at}
use Rattle.sat_core.specs.declared.numbered.Numbered.{Numbered}
use Rattle.sat_core.specs.declared.assigned.Assigned.{Assigned}
use Rattle.sat_core.specs.declared.assigned.Held.{Held}
use Rattle.sat_core.specs.States.{State}

-- where a clause is after the last one took another place
abbrev pub moved : ℕ → ℕ → ℕ → ℕ
moved last at k = if k == last then at else k

-- a reason then
abbrev pub moved_reason : ℕ → ℕ → Option Held → Option Held
moved_reason last at None = None
moved_reason last at (Some h) = Some (record { 0 = moved last at h.0 })

-- an entry then
abbrev pub moved_entry : ℕ → ℕ → Assigned → Assigned
moved_entry last at e =
    record { lit = e.lit; level = e.level; reason = moved_reason last at e.reason }

-- the entries then
abbrev pub moved_entries : ℕ → ℕ → List Assigned → List Assigned
moved_entries last at entries = map (moved_entry last at) entries

-- the list without the clause at a place, which the last one takes
abbrev pub without_at : List Numbered → ℕ → List Numbered
without_at clauses at = swap_remove clauses at (record { id = 0; lits = [] })

-- the state without the clause
abbrev pub without_clause : State → Held → State
without_clause s h = record s
    { clauses = without_at s.clauses h.0; trail = moved_entries (length s.clauses - 1) h.0 s.trail }

-- the clause is the reason of no entry
abbrev pub IsNoReason : List Assigned → Held → Type 0
IsNoReason trail h = All (λ e. e.reason ≢ Some h) trail

-- the pool lost the clause of an id, where it had one
pub record IsFreed (id : ℕ) (old new : PoolState) : Type 0 where
  pub vars : new.vars ≡ old.vars
  pub sound : IsSoundPool new
  pub gone : IsFreshId new id
  pub from : (p : Place) (e : Entry) → clause_at new p ≡ Some e → clause_at old p ≡ Some e
  pub to : (p : Place) (e : Entry) → clause_at old p ≡ Some e → e.id ≢ id → clause_at new p ≡ Some e

-- and its clause of the last id has the one that became free
pub record IsMoved (last at : ℕ) (old new : PoolState) : Type 0 where
  pub vars : new.vars ≡ old.vars
  pub sound : IsSoundPool new
  pub from : (p : Place) (e : Entry) → clause_at new p ≡ Some e →
      (d : Entry) × (clause_at old p ≡ Some d) × (e.lits ≡ d.lits) × (d.id ≢ at) ×
      (e.id ≡ moved last at d.id)
  pub to : (p : Place) (d : Entry) → clause_at old p ≡ Some d → d.id ≢ at →
      (e : Entry) × (clause_at new p ≡ Some e) × (e.id ≡ moved last at d.id)

-- the pool's clause of an id has another one, where there is a clause of the id
pub record IsRenumbered (id new_id : ℕ) (old new : PoolState) : Type 0 where
  pub vars : new.vars ≡ old.vars
  pub sound : IsSoundPool new
  pub from : (p : Place) (e : Entry) → clause_at new p ≡ Some e →
      (d : Entry) × (clause_at old p ≡ Some d) × (e.lits ≡ d.lits) × (e.id ≡ moved id new_id d.id)
  pub to : (p : Place) (d : Entry) → clause_at old p ≡ Some d →
      (e : Entry) × (clause_at new p ≡ Some e) × (e.id ≡ moved id new_id d.id)
