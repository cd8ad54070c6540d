-- Clauses of the list, and where the pool keeps them.
use Rattle.std.specs.Prelude.{◌≡◌, ℕ, List, length, Contains, Some, IfSome, IsSomeAnd}
use Rattle.std.specs.Prelude.{slice_get}
use Rattle.std.specs.Option.{option_map}
use Rattle.cnf_types.specs.declared.literal.Lit.{Lit}
use Rattle.clause_pool.specs.declared.place.Place.{Place}
use Rattle.clause_pool.specs.Pools.{State as PoolState, clause_at}
use Rattle.sat_core.specs.Stores.{Stored}

-- the clauses have as many literals, and the same ones
pub record AreAlike (a b : List Lit) : Type 0 where
  pub size : length a ≡ length b
  pub there : (l : Lit) → Contains a l → Contains b l
  pub back : (l : Lit) → Contains b l → Contains a l

-- where a clause of the list has a place in the pool, the clause there has its number for its id,
-- and each clause of the pool has its place in the list
pub record IsPlaced (store : Stored) (pool : PoolState) : Type 0 where
  pub size : length store.places ≡ length store.clauses
  pub live : (k : ℕ) (p : Place) → slice_get store.places k ≡ Some (Some p) →
      IsSomeAnd (clause_at pool p) (λ e. e.id ≡ k)
  pub known : (p : Place) → IfSome (clause_at pool p) (λ e.
      slice_get store.places e.id ≡ Some (Some p))

-- the clauses of the list have these old places, and the pool keeps them at the new ones
pub record AreToMove (store : Stored) (pool : PoolState)
    (moves : List (Place × Place)) : Type 0 where
  pub size : length store.places ≡ length store.clauses
  pub each : (k : ℕ) (p : Place) → slice_get store.places k ≡ Some (Some p) →
      (q : Place) × Contains moves (p, q) × IsSomeAnd (clause_at pool q) (λ e. e.id ≡ k)
  pub move : (p q : Place) → Contains moves (p, q) →
      IsSomeAnd (clause_at pool q) (λ e. slice_get store.places e.id ≡ Some (Some p))
  pub only : (q : Place) → IfSome (clause_at pool q) (λ _. (p : Place) × Contains moves (p, q))
  pub once : (p q r : Place) → Contains moves (p, q) → Contains moves (p, r) → q ≡ r
  pub apart : (j k : ℕ) (p : Place) → slice_get store.places j ≡ Some (Some p) →
      slice_get store.places k ≡ Some (Some p) → j ≡ k

-- the same places of both pools have clauses, under the same ids
abbrev pub SameIds : PoolState → PoolState → Type 0
SameIds old new = (p : Place) →
    option_map (λ e. e.id) (clause_at new p) ≡ option_map (λ e. e.id) (clause_at old p)
