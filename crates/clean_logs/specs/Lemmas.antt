-- When a clause that a search adds is new: it lets unit propagation find more, and its hints are
-- the chain of resolutions that makes it.
use Rattle.std.specs.Prelude.{◌≡◌, ◌≢◌, ℕ, ℤ, pos, Bool, ◌&&◌, ◌||◌, not, IsTrue, IsFalse, List, []}
use Rattle.std.specs.Prelude.{◌∷◌, Contains, AllPairs, Option, Some}
use Rattle.cnf_types.specs.declared.literal.Lit.{Lit}
use Rattle.cnf_types.specs.Literals.{negated, variable}
use Rattle.proof_check.specs.Propagation.{same, is_among}
use Rattle.sat_core.specs.Trails.{IsUnset}
use Rattle.sat_core.specs.Rest.{RestsOn}

-- no variable occurs in the clause twice
abbrev pub HasDifferentVariables : List Lit → Type 0
HasDifferentVariables lits = AllPairs (λ l m. variable l ≢ variable m) lits

-- Unit propagation finds more with the clause than without it: some set of literals makes all its
-- literals false but one, which it leaves unset, and each live clause rests on the set.
pub record FindsMore (clause : ℕ → Option (List Lit)) (lits : List Lit) : Type 0 where
  pub left : Lit
  pub held : Contains lits left
  pub set : Lit → Bool
  pub others : (l : Lit) → Contains lits l → l ≢ left → IsTrue (set (negated l))
  pub left_unset : IsUnset set left
  pub consistent : (l : Lit) → IsTrue (set l) → IsFalse (set (negated l))
  pub at_rest : (id : ℕ) (live : List Lit) → clause id ≡ Some live → RestsOn set live

-- the clause so far and another one, without the literal p of the one and its negation in the other
abbrev pub resolvent : (Lit → Bool) → Lit → List Lit → Lit → Bool
resolvent so_far p lits l =
    (so_far l && not (same p l)) || (is_among lits l && not (same (negated p) l))

-- they clash in the variable of p alone
pub record ClashesAt (so_far : Lit → Bool) (p : Lit) (lits : List Lit) : Type 0 where
  pub one : IsTrue (so_far p)
  pub other : Contains lits (negated p)
  pub alone : (l : Lit) → IsTrue (so_far l) → Contains lits (negated l) → variable l ≡ variable p

-- The clause that hints make: the clause of the last one, resolved with the clauses of the others
-- from last to first.
pub data Makes (clause : ℕ → Option (List Lit)) : List ℤ → (Lit → Bool) → Type 0 where
  last : {id : ℕ} {lits : List Lit} → clause id ≡ Some lits →
      Makes clause (pos id ∷ []) (is_among lits)
  resolved : {id : ℕ} {lits : List Lit} {hints : List ℤ} {so_far : Lit → Bool} {p : Lit} →
      Makes clause hints so_far → clause id ≡ Some lits → ClashesAt so_far p lits
      → Makes clause (pos id ∷ hints) (resolvent so_far p lits)

-- the hints make a clause of just these literals
pub record IsMadeBy (clause : ℕ → Option (List Lit)) (hints : List ℤ)
    (lits : List Lit) : Type 0 where
  pub made : Lit → Bool
  pub makes : Makes clause hints made
  pub same_literals : (l : Lit) → made l ≡ is_among lits l

-- the clause is new among the live ones
pub record IsNew (clause : ℕ → Option (List Lit)) (lits : List Lit) (hints : List ℤ) : Type 0 where
  pub different : HasDifferentVariables lits
  pub finds_more : FindsMore clause lits
  pub chain : IsMadeBy clause hints lits
