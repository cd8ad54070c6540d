-- The order in which variables are decided.
use Rattle.std.specs.Prelude.{◌≡◌, ◌≢◌, ◌≤◌, ℕ, ◌+◌, ◌-◌, ◌/◌, ◌^◌, ◌||◌, ◌⊎◌, ◌↔◌, min}
use Rattle.std.specs.Prelude.{nat_lt, Bool, true, false, IsTrue, if◌then◌else◌, List, [], ◌∷◌}
use Rattle.std.specs.Prelude.{length, slice_index, slice_index_or, slice_set, filter, map, All}
use Rattle.std.specs.Prelude.{Contains}
use Rattle.cnf_types.specs.declared.literal.Lit.{Lit}
use Rattle.cnf_types.specs.Literals.{literal, variable, is_positive}
use Rattle.sat_core.specs.declared.assigned.Assigned.{Assigned}
use Rattle.sat_core.specs.Trails.{is_on}
use Rattle.sat_core.specs.States.{State}
use Rattle.variable_heap.specs.Heaps.{IsOrdered, AreIdle}
use Rattle.sat_search.specs.declared.order.Order.{Order}

-- the order is one of these variables, and in its heap none is more active than the one above it
pub record IsOrder (vars : ℕ) (order : Order) : Type 0 where
  pub activity : length order.activity.items ≡ vars + 1
  pub saved : length order.saved.items ≡ vars + 1
  pub limit : order.heap.limit ≡ vars + 1
  pub ordered : IsOrdered order.activity.items order.heap.vars

-- no variable of the heap is more active than this one
abbrev pub IsMostActive : Order → ℕ → Type 0
IsMostActive order var =
    All (λ w. slice_index order.activity.items w ≤ slice_index order.activity.items var)
    order.heap.vars

-- no conflict was met yet: no variable was active or has a saved value, and all are in the heap
pub record IsFresh (vars : ℕ) (order : Order) : Type 0 where
  pub idle : AreIdle order.activity.items
  pub step : order.step ≡ 2 ^ 10
  pub saved : (var : ℕ) → slice_index_or order.saved.items var false ≡ false
  pub waiting : (var : ℕ) → Contains order.heap.vars var ↔ ((1 ≤ var) × (var ≤ vars))

-- the activity after activities were made smaller
abbrev pub scaled : ℕ → ℕ
scaled a = if nat_lt 0 a then a / 2 ^ 40 + 1 else 0

-- the activities after a conflict met a variable: its own grew by the step, as far as 64 bits hold
abbrev pub met_once : ℕ → ℕ → List ℕ → List ℕ
met_once step var activity =
    slice_set activity var (min (slice_index activity var + step) (2 ^ 64 - 1))

-- the activities after it met the variables of all these literals
abbrev pub met_all : ℕ → List Lit → List ℕ → List ℕ
met_all step [] activity = activity
met_all step (l ∷ lits) activity = met_all step lits (met_once step (variable l) activity)

-- the step with a sixteenth more, as far as 64 bits hold
abbrev pub grown : ℕ → ℕ
grown step = min (step + step / 16) (2 ^ 64 - 1)

-- the step after a conflict: a sixteenth more, or much less where that is too much
abbrev pub step_after : ℕ → ℕ
step_after step = if nat_lt (2 ^ 50) (grown step) then grown step / 2 ^ 40 else grown step

-- the activities after a conflict of this step are these, all made smaller where the step is
abbrev pub AreActive : ℕ → List ℕ → List ℕ → Type 0
AreActive step met new = (var : ℕ) → slice_index new var ≡
    (if nat_lt (2 ^ 50) (grown step) then scaled (slice_index met var) else slice_index met var)

-- the entries of the levels above this one
abbrev pub above : List Assigned → ℕ → List Assigned
above trail level = filter (λ e. nat_lt level e.level) trail

-- the entries were taken back: the value of each is saved, and its variable is in the heap, as are
-- those that were; nothing else changed
pub record IsReleased (entries : List Assigned) (old new : Order) : Type 0 where
  pub saved : All (λ e. slice_index_or new.saved.items (variable e.lit) false ≡ is_positive e.lit)
      entries
  pub others : (var : ℕ) → All (λ e. variable e.lit ≢ var) entries →
      slice_index_or new.saved.items var false ≡ slice_index_or old.saved.items var false
  pub waiting : (var : ℕ) → Contains new.heap.vars var ↔
      (Contains old.heap.vars var ⊎ Contains (map (λ e. variable e.lit) entries) var)
  pub activity : new.activity ≡ old.activity
  pub step : new.step ≡ old.step

-- each activity was made smaller
abbrev pub IsScaled : List ℕ → List ℕ → Type 0
IsScaled old new = (k : ℕ) → slice_index new k ≡ scaled (slice_index old k)

-- whether the trail assigns the variable
abbrev pub is_set : List Assigned → ℕ → Bool
is_set trail var = is_on trail (literal var true) || is_on trail (literal var false)

-- the states differ in their trails alone, and in the level
pub record KeepsClauses (old new : State) : Type 0 where
  pub vars : new.vars ≡ old.vars
  pub clauses : new.clauses ≡ old.clauses
  pub last_id : new.last_id ≡ old.last_id

-- what is true stays so
abbrev pub KeepsTrue : List Assigned → List Assigned → Type 0
KeepsTrue old new = (l : Lit) → IsTrue (is_on old l) → IsTrue (is_on new l)

-- each variable that the trail leaves unset is in the heap
abbrev pub HoldsUnset : ℕ → List Assigned → Order → Type 0
HoldsUnset vars trail order =
    (var : ℕ) → 1 ≤ var → var ≤ vars → IsTrue (is_set trail var) ⊎ Contains order.heap.vars var
