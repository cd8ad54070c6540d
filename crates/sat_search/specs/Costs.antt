-- Which clauses may be dropped, and what they cost: the greater the cost, the less a clause is
-- worth.
use Rattle.std.specs.Prelude.{◌≡◌, ℕ, zero, suc, ◌+◌, ◌<◌, ◌^◌, ◌==◌, ◌&&◌, ◌||◌, nat_le, nat_lt, ℤ}
use Rattle.std.specs.Prelude.{pos, negsuc, Bool, true, false}
use Rattle.std.specs.Prelude.{if◌then◌else◌, List, length, take, position, slice_get}
use Rattle.std.specs.Prelude.{slice_index_or, AllPairs, Option, Some, None}
use Rattle.std.specs.List.{list_any}
use Rattle.std.specs.Option.{is_some, option_map, option_and_then}
use Rattle.proof_log.specs.declared.steps.Step.{Step}
use Rattle.proof_log.specs.declared.steps.Step.TheVariants.{Add, Drop, Bound}
use Rattle.sat_core.specs.declared.assigned.Assigned.{Assigned}
use Rattle.sat_core.specs.declared.assigned.Held.{Held}
use Rattle.sat_core.specs.declared.numbered.Numbered.{Numbered}
use Rattle.sat_core.specs.States.{State}
use Rattle.sat_search.specs.declared.lemmas.Lemmas.{Lemmas}

-- whether the reason is the clause at a place
abbrev pub is_at : ℕ → Option Held → Bool
is_at place None = false
is_at place (Some h) = h.0 == place

-- whether the clause at a place is the reason of an entry
abbrev pub is_reason : List Assigned → ℕ → Bool
is_reason trail place = list_any (λ e. is_at place e.reason) trail

-- where a clause is among the first `old` ids, if it may be dropped: it has more than two literals,
-- and is no reason
abbrev pub place_among : List ℕ → ℕ → Bool → Numbered → Option ℕ
place_among ids old reason c =
    if nat_le (length c.lits) 2 || reason then None else position (λ id. id == c.id) (take old ids)

-- where the clause at a place of the core is among them, if it may be dropped
abbrev pub dropping_place : List ℕ → ℕ → State → ℕ → Option ℕ
dropping_place ids old s at =
    option_and_then (place_among ids old (is_reason s.trail at)) (slice_get s.clauses at)

-- whether the hint is the id of a clause
abbrev pub is_hint_of : ℕ → ℤ → Bool
is_hint_of id (pos n) = n == id
is_hint_of id (negsuc n) = false

-- whether a hint of the step is
abbrev pub uses : ℕ → Step → Bool
uses id (Add of lits hints) = list_any (is_hint_of id) hints
uses id (Drop ids) = false
uses id (Bound of price) = false

-- the flags, one for each of the first ids, are now set also where the test passes
abbrev pub AreSetToo : List ℕ → (ℕ → Bool) → List Bool → List Bool → Type 0
AreSetToo ids test old new =
    (place id : ℕ) → place < length old → slice_get ids place ≡ Some id →
    slice_index_or new place true ≡ (slice_index_or old place true || test id)

-- a lemma costs as much as the levels that it joined, and 2^32 more where it was not used lately
abbrev pub cost_at : List ℕ → List Bool → ℕ → ℕ
cost_at levels used place =
    slice_index_or levels place 0 + (if slice_index_or used place true then 0 else 2 ^ 32)

-- what the clause at a place of the core costs, if it may be dropped; the flags say which of the
-- first lemmas were used
abbrev pub cost_of : Lemmas → List Bool → State → ℕ → Option ℕ
cost_of lemmas used s at =
    option_map (cost_at lemmas.levels.items used)
    (dropping_place lemmas.ids.items (length used) s at)

-- whether there is a cost, and it is at least `least`
abbrev pub is_as_much : ℕ → Option ℕ → Bool
is_as_much least None = false
is_as_much least (Some cost) = nat_le least cost

-- 1 where the test passes
abbrev pub one_if : Bool → ℕ
one_if test = if test then 1 else 0

-- 1 where a cost is at least `least`
abbrev pub counts : ℕ → ℕ → ℕ
counts least cost = one_if (nat_le least cost)

-- how many numbers below this one pass the test
abbrev pub count_below : (ℕ → Bool) → ℕ → ℕ
count_below test zero = 0
count_below test (suc n) = count_below test n + one_if (test n)

-- how many of the first clauses may be dropped and cost at least `least`
abbrev pub costing : Lemmas → List Bool → ℕ → State → ℕ → ℕ
costing lemmas used least s = count_below (λ at. is_as_much least (cost_of lemmas used s at))

-- whether the clause has more than two literals, and one of these ids
abbrev pub may_be_named : List ℕ → Numbered → Bool
may_be_named ids c = nat_lt 2 (length c.lits) && list_any (λ id. id == c.id) ids

-- how many clauses of the core may be dropped, where the first `old` lemmas are old enough
abbrev pub droppable : List ℕ → ℕ → State → ℕ
droppable ids old s = count_below (λ at. is_some (dropping_place ids old s at)) (length s.clauses)

-- the ids rise
abbrev pub Rise : List ℕ → Type 0
Rise ids = AllPairs (λ a b. a < b) ids
