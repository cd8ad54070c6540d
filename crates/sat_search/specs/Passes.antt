-- How far the pass that learns a lemma has come. It goes through the trail from its end. Contracts
-- of helpers cite these.
use Rattle.std.specs.Prelude.{◌≡◌, ◌≢◌, ℕ, ◌+◌, ◌-◌, ◌*◌, ◌^◌, ◌<◌, ◌≤◌, ℤ, pos, Bool, false}
use Rattle.std.specs.Prelude.{if◌then◌else◌, nat_lt, ◌==◌, ◌&&◌, ◌||◌, not, ◌⊎◌, IsTrue, IsFalse}
use Rattle.std.specs.Prelude.{IsSome, List, All, length, count_by, slice_get, slice_index_or}
use Rattle.std.specs.Prelude.{Option, Some, None}
use Rattle.std.specs.Option.{option_map}
use Rattle.cnf_types.specs.declared.literal.Lit.{Lit}
use Rattle.cnf_types.specs.Literals.{negated}
use Rattle.proof_check.specs.Propagation.{same, is_among, chain_fault}
use Rattle.sat_core.specs.declared.assigned.Assigned.{Assigned}
use Rattle.sat_core.specs.declared.assigned.Held.{Held}
use Rattle.sat_core.specs.declared.numbered.Numbered.{Numbered}
use Rattle.sat_core.specs.Trails.{id_at, is_on, up_to}
use Rattle.sat_core.specs.States.{State}
use Rattle.clean_logs.specs.Lemmas.{HasDifferentVariables, Makes}
use Rattle.sat_search.specs.Live.{clause_in}

-- whether the literal is marked, where literals are marked by their codes
abbrev pub is_marked : List Bool → Lit → Bool
is_marked flags l = slice_index_or flags l.code false

-- the literal was unmarked
abbrev pub IsCleared : List Bool → List Bool → Lit → Type 0
IsCleared old new l = (m : Lit) → is_marked new m ≡ (is_marked old m && not (same l m))

-- the literals of the clause that are false were marked
abbrev pub IsJoined : List Assigned → List Bool → List Bool → List Lit → Type 0
IsJoined trail old new lits =
    (m : Lit) → is_marked new m ≡ (is_marked old m || (is_among lits m && is_on trail (negated m)))

-- the entry has the level, and the negation of its literal is marked
abbrev pub is_open : ℕ → List Bool → Assigned → Bool
is_open level flags e = (e.level == level) && is_marked flags (negated e.lit)

-- how many entries of a level have their negations marked
abbrev pub open_in : ℕ → List Assigned → List Bool → ℕ
open_in level trail flags = count_by (is_open level flags) trail

-- the flags are those of the literals of all variables, and places on the trail fit a machine word
pub record HasRoom (s : State) (flags : List Bool) : Type 0 where
  pub size : length flags ≡ 2 * s.vars + 2
  pub few : length s.trail < 2 ^ 64

-- the reason of an entry of the current level as long as others of the level are open, or where it
-- is level 0, and of one below it whose literal can be spared
abbrev pub resolving_reason : ℕ → ℕ → Bool → Assigned → Option Held
resolving_reason level current spared e =
    if (if e.level == level then (level == 0) || nat_lt 1 current else spared)
    then e.reason else None

-- an entry from place `low` on and before place `high` assigns the literal
pub record IsSetWithin (trail : List Assigned) (low high : ℕ) (l : Lit) : Type 0 where
  pub place : ℕ
  pub entry : Assigned
  pub from : low ≤ place
  pub before : place < high
  pub at : slice_get trail place ≡ Some entry
  pub literal : entry.lit ≡ l

-- the literals of the clause so far: those that are marked, and those that stay
abbrev pub so_far : List Bool → List Lit → Lit → Bool
so_far flags lits m = is_marked flags m || is_among lits m

-- where the literals of the set are false, and whatever else, propagation along the hints ends in a
-- conflict
abbrev pub Refutes : (ℕ → Option (List Lit)) → (Lit → Bool) → List ℤ → Type 0
Refutes live set hints =
    (falses : Lit → Bool) → ((m : Lit) → IsTrue (set m) → IsTrue (falses m)) →
    (place : ℕ) → chain_fault live falses place hints ≡ None

-- the hint is the id of a live clause
abbrev pub IsLive : (ℕ → Option (List Lit)) → ℤ → Type 0
IsLive live h = (id : ℕ) × (h ≡ pos id) × IsSome (live id)

-- the hint that names the clause at a place
abbrev pub hint_at : List Numbered → Held → Option ℤ
hint_at clauses h = option_map pos (id_at clauses h)

-- the literal was made false below the current level
abbrev pub IsDeep : State → Lit → Type 0
IsDeep s m = IsTrue (is_on (up_to s.trail (s.level - 1)) (negated m))

-- one literal was made false on the current level, and all others below it
pub record HasPoint (s : State) (lits : List Lit) : Type 0 where
  pub literal : Lit
  pub among : IsTrue (is_among lits literal)
  pub on_level : IsFalse (is_on (up_to s.trail (s.level - 1)) (negated literal))
  pub others : (m : Lit) → IsTrue (is_among lits m) → m ≢ literal → IsDeep s m

-- the clause so far has literals of the current level that are still marked, and none that stays;
-- or one of them stays and none is marked
abbrev pub HasOneOfLevel : State → List Lit → ℕ → Type 0
HasOneOfLevel s lits current =
    (((m : Lit) → IsTrue (is_among lits m) → IsDeep s m) × (1 ≤ current)) ⊎
    (HasPoint s lits × (current ≡ 0))

-- the pass has gone through all entries but the first few. What is marked was made false by these;
-- the literals in the list stay, and were made false by the others; the hints show the clause so
-- far; and `current` entries of the current level are open
pub record IsPass (s : State) (first : ℕ) (flags : List Bool) (lits : List Lit) (hints : List ℤ)
    (current : ℕ) : Type 0 where
  pub size : length flags ≡ 2 * s.vars + 2
  pub pending : (m : Lit) → IsTrue (is_marked flags m) → IsSetWithin s.trail 0 first (negated m)
  pub settled : (m : Lit) → IsTrue (is_among lits m) →
      IsSetWithin s.trail first (length s.trail) (negated m)
  pub apart : HasDifferentVariables lits
  pub refutes : Refutes (clause_in s.clauses) (so_far flags lits) hints
  pub live : All (IsLive (clause_in s.clauses)) hints
  pub chain : Makes (clause_in s.clauses) hints (so_far flags lits)
  pub counted : current ≡ open_in s.level s.trail flags
  pub risen : (m : Lit) → IsTrue (is_among lits m) → 1 ≤ s.level
  pub one : 1 ≤ s.level → HasOneOfLevel s lits current
