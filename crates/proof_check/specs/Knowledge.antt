-- What a checker knows, when a step is accepted, and what is known after it.
use Rattle.std.specs.Prelude.{◌≡◌, ℕ, suc, zero, Bool, true, false, if◌then◌else◌, ◌==◌, ◌||◌}
use Rattle.std.specs.Prelude.{nat_lt, List, [], ◌∷◌, length, map, Option, Some, None, is_none}
use Rattle.std.specs.Prelude.{slice_get, position, option_to_list}
use Rattle.std.specs.Option.{option_map}
use Rattle.std.specs.List.{list_any}
use Rattle.cnf_types.specs.declared.literal.Lit.{Lit}
use Rattle.cnf_types.specs.declared.clauses.Clause.{Clause}
use Rattle.cnf_types.specs.declared.clauses.Formula.{Formula}
use Rattle.cnf_types.specs.Literals.{negated}
use Rattle.proof_log.specs.declared.steps.Step.{Step}
use Rattle.proof_log.specs.declared.steps.Step.TheVariants.{Add, Drop, Bound}
use Rattle.proof_check.specs.declared.faults.StepFault.{StepFault}
use Rattle.proof_check.specs.declared.faults.StepFault.TheVariants.{IdNotRising, NegativeHint}
use Rattle.proof_check.specs.declared.faults.StepFault.TheVariants.{UnknownId, HintNotUnit}
use Rattle.proof_check.specs.declared.faults.StepFault.TheVariants.{NoConflict, BoundTooLow}
use Rattle.proof_check.specs.declared.faults.StepFault.TheVariants.{BoundTooHigh, Memory}
use Rattle.proof_check.specs.Propagation.{chain_fault, is_among}

-- the live clause of each id, the greatest id so far, the least bound allowed, the literals "the
-- price is at least j" for j from 1 on, and whether an empty clause was added
pub record Knowledge : Type 0 where
  pub clause : ℕ → Option (List Lit)
  pub last : ℕ
  pub least : Option ℕ
  pub tops : List Lit
  pub refuted : Bool

-- the clauses of a formula have the ids from 1 on
abbrev pub formula_clause : List Clause → ℕ → Option (List Lit)
formula_clause clauses zero = None
formula_clause clauses (suc n) = option_map (λ c. c.lits) (slice_get clauses n)

-- what is known before the first step
abbrev pub start : Formula → Option ℕ → List Lit → Knowledge
start f least tops = record {
  clause = formula_clause f.clauses;
  last = length f.clauses;
  least = least;
  tops = tops;
  refuted = false;
}

-- one clause more
abbrev pub with_clause : (ℕ → Option (List Lit)) → ℕ → List Lit → ℕ → Option (List Lit)
with_clause clause id lits j = if id == j then Some lits else clause j

-- without some clauses
abbrev pub without_clauses : (ℕ → Option (List Lit)) → List ℕ → ℕ → Option (List Lit)
without_clauses clause ids j = if list_any (λ id. id == j) ids then None else clause j

-- the clause "the price is at most `price`"
abbrev pub bound_clause : List Lit → ℕ → List Lit
bound_clause tops price = map negated (option_to_list (slice_get tops price))

-- whether a bound is below the least allowed one
abbrev pub is_too_low : Option ℕ → ℕ → Bool
is_too_low None price = false
is_too_low (Some least) price = nat_lt price least

-- why a bound is not accepted
abbrev pub bound_fault : Option ℕ → List Lit → ℕ → Option StepFault
bound_fault least tops price =
    if is_too_low least price then Some BoundTooLow
    else (if nat_lt price (length tops) then None else Some BoundTooHigh)

-- an id has to be above every id before it
abbrev pub rising : ℕ → ℕ → Option StepFault → Option StepFault
rising last id other = if nat_lt last id then other else Some IdNotRising

-- the first defect of a step, and none where it is accepted
abbrev pub step_fault : Knowledge → Step → Option StepFault
step_fault k (Add id lits hints) = rising k.last id (chain_fault k.clause (is_among lits) 0 hints)
step_fault k (Drop ids) = option_map UnknownId (position (λ id. is_none (k.clause id)) ids)
step_fault k (Bound id price) = rising k.last id (bound_fault k.least k.tops price)

abbrev pub is_empty_clause : List Lit → Bool
is_empty_clause [] = true
is_empty_clause (l ∷ ls) = false

-- what is known with one clause more, under the greatest id
abbrev pub learn : Knowledge → ℕ → List Lit → Knowledge
learn k id lits = record k { clause = with_clause k.clause id lits; last = id }

-- what is known after an accepted step
abbrev pub after : Knowledge → Step → Knowledge
after k (Add id lits hints) =
    record (learn k id lits) { refuted = k.refuted || is_empty_clause lits }
after k (Drop ids) = record k { clause = without_clauses k.clause ids }
after k (Bound id price) = learn k id (bound_clause k.tops price)

-- a fault that is answered is the first defect, or out of memory
abbrev pub IsFirst : Option StepFault → StepFault → Type 0
IsFirst first Memory = Unit {0}
IsFirst first IdNotRising = first ≡ Some IdNotRising
IsFirst first (NegativeHint place) = first ≡ Some (NegativeHint place)
IsFirst first (UnknownId place) = first ≡ Some (UnknownId place)
IsFirst first (HintNotUnit place) = first ≡ Some (HintNotUnit place)
IsFirst first NoConflict = first ≡ Some NoConflict
IsFirst first BoundTooLow = first ≡ Some BoundTooLow
IsFirst first BoundTooHigh = first ≡ Some BoundTooHigh
