-- Prices of edits, and the clauses that count them. `above` is the variable of an edit and a
-- number: the chosen edits up to this one cost more than the number.
use Rattle.std.specs.Prelude.{ℕ, ◌+◌, ◌-◌, if◌then◌else◌, ◌==◌, nat_lt, List, [], ◌∷◌, ◌++◌, length}
use Rattle.std.specs.Prelude.{flat_map, sum_by, slice_index_or, Bool}
use Rattle.condition_formula.specs.Lists.{upto}
use Rattle.condition_formula.specs.declared.part.Part.{Part}
use Rattle.condition_formula.specs.Clauses.{yes, no, edit_variable}

-- what the edit adds to the price
abbrev pub share : (ℕ → Bool) → List ℕ → ℕ → ℕ
share chosen weights edit = if chosen edit then slice_index_or weights edit 0 else 0

-- the sum of the weights of the chosen edits among the first `many`
abbrev pub price_of_first : (ℕ → Bool) → List ℕ → ℕ → ℕ
price_of_first chosen weights many = sum_by (share chosen weights) (upto many)

-- the sum of the weights of the chosen edits
abbrev pub price : (ℕ → Bool) → List ℕ → ℕ
price chosen weights = price_of_first chosen weights (length weights)

-- if the edits before it cost more than the number, they do so with this edit too
abbrev pub kept_parts : (ℕ → ℕ → ℕ) → ℕ → ℕ → List (List Part)
kept_parts above edit number =
    if edit == 0 then [] else (no (above (edit - 1) number) ∷ yes (above edit number) ∷ []) ∷ []

-- a chosen edit adds its weight to the price
abbrev pub added_parts : (ℕ → ℕ → ℕ) → ℕ → ℕ → ℕ → List (List Part)
added_parts above weight edit number =
    if nat_lt number weight then (no (edit_variable edit) ∷ yes (above edit number) ∷ []) ∷ []
    else if edit == 0 then [] else (no (edit_variable edit) ∷
    no (above (edit - 1) (number - weight)) ∷ yes (above edit number) ∷ []) ∷ []

-- the clauses of the price counter, for each edit and each number up to the bound
abbrev pub price_parts : List ℕ → ℕ → (ℕ → ℕ → ℕ) → List (List Part)
price_parts weights bound above =
    flat_map (λ edit. flat_map (λ number. kept_parts above edit number ++
    added_parts above (slice_index_or weights edit 0) edit number) (upto (bound + 1)))
    (upto (length weights))
