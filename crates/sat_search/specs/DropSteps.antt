-- When lemmas are dropped, and how many, by the log alone.
use Rattle.std.specs.Prelude.{◌≡◌, ◌≤◌, ℕ, ◌+◌, ◌-◌, ◌*◌, ◌/◌, ◌^◌, ◌==◌, min, if◌then◌else◌}
use Rattle.std.specs.Prelude.{nat_lt, Bool, false, IsTrue, List, [], ◌∷◌, length, drop, count_by}
use Rattle.std.specs.Prelude.{All, Option, Some, None}
use Rattle.cnf_types.specs.declared.literal.Lit.{Lit}
use Rattle.proof_log.specs.declared.steps.Step.{Step}
use Rattle.proof_log.specs.declared.steps.Step.TheVariants.{Add, Drop, Bound}
use Rattle.proof_check.specs.Knowledge.{with_clause, without_clauses}
use Rattle.clean_logs.specs.declared.kept.TheConstants.{KEPT_LEMMAS}

-- how many clauses are added after `drops` drop steps until the next one comes: 1,500 j before the
-- j-th, as far as 64 bits count
abbrev pub gap_after : ℕ → ℕ
gap_after drops = min (1500 * (drops + 1)) (2 ^ 64 - 1)

-- how many are still to be added once another one was: one less; and where none was to be added any
-- more, and yet no step dropped any, the next one may come 1,500 after the time for it
abbrev pub after_one : ℕ → ℕ
after_one wait = if wait == 0 then 1499 else wait - 1

-- how many are still to be added after steps, given how many drop steps came before them and how
-- many clauses were still to be added
abbrev pub wait_after : ℕ → ℕ → List Step → ℕ
wait_after drops wait [] = wait
wait_after drops wait (Add id lits hints ∷ steps) = wait_after drops (after_one wait) steps
wait_after drops wait (Drop ids ∷ steps) = wait_after (drops + 1) (gap_after (drops + 1)) steps
wait_after drops wait (Bound id price ∷ steps) = wait_after drops wait steps

-- how many clauses a log that begins with these steps is still to add before it drops some
abbrev pub wait_of : List Step → ℕ
wait_of = wait_after 0 (gap_after 0)

-- each step that drops clauses comes when just this many were added since the one before it: 1,500
-- j for the j-th, or some multiple of 1,500 more
abbrev pub DropsInTime : ℕ → ℕ → List Step → Type 0
DropsInTime drops wait [] = Unit {0}
DropsInTime drops wait (Add id lits hints ∷ steps) = DropsInTime drops (after_one wait) steps
DropsInTime drops wait (Drop ids ∷ steps) =
    (wait ≡ 0) × DropsInTime (drops + 1) (gap_after (drops + 1)) steps
DropsInTime drops wait (Bound id price ∷ steps) = DropsInTime drops wait steps

-- whether a clause is live and has more than two literals
abbrev pub is_long : Option (List Lit) → Bool
is_long None = false
is_long (Some lits) = nat_lt 2 (length lits)

-- how many lemmas the j-th drop step may name: those that are live, have more than two literals and
-- are none of the last KEPT_LEMMAS times j
abbrev pub long_old : (ℕ → Option (List Lit)) → List ℕ → ℕ → ℕ
long_old live added drops =
    count_by (λ id. is_long (live id)) (drop (KEPT_LEMMAS * (drops + 1)) added)

-- the step names live clauses of more than two literals: one at least, and at most half of those
-- that it may name, rounded up
pub record IsHalf (live : ℕ → Option (List Lit)) (added : List ℕ) (drops : ℕ)
    (ids : List ℕ) : Type 0 where
  pub long : All (λ id. IsTrue (is_long (live id))) ids
  pub some : 1 ≤ length ids
  pub most : length ids ≤ (long_old live added drops + 1) / 2

-- each step that drops clauses names clauses that may go, at most half of them, after others that
-- added these clauses and dropped this often
abbrev pub DropsHalf : (ℕ → Option (List Lit)) → List ℕ → ℕ → List Step → Type 0
DropsHalf live added drops [] = Unit {0}
DropsHalf live added drops (Add id lits hints ∷ steps) =
    DropsHalf (with_clause live id lits) (id ∷ added) drops steps
DropsHalf live added drops (Drop ids ∷ steps) =
    IsHalf live added drops ids × DropsHalf (without_clauses live ids) added (drops + 1) steps
DropsHalf live added drops (Bound id price ∷ steps) = DropsHalf live added drops steps
