-- The text of a proof log.
use Rattle.std.specs.Prelude.{◌≡◌, ℕ, ◌<◌, ◌^◌, ℤ}
use Rattle.std.specs.Prelude.{if◌then◌else◌, List, [], ◌∷◌, ◌++◌, map, flat_map, codes}
use Rattle.std.specs.Prelude.{decimal, All, Some, Ok, unsigned_abs}
use Rattle.std.specs.Fmt.{signed_decimal}
use Rattle.cnf_types.specs.declared.literal.Lit.{Lit}
use Rattle.cnf_types.specs.Literals.{variable, is_positive}
use Rattle.arc_base.specs.TextLines.{lines}
use Rattle.proof_log.specs.declared.steps.Step.{Step}
use Rattle.proof_log.specs.declared.steps.Step.TheVariants.{Add, Drop, Bound}
use Rattle.proof_log.specs.declared.steps.Log.{Log}
use Rattle.proof_log.specs.Reading.{reading}

-- a literal as it is written: its variable, after a minus sign where it is the negation
abbrev pub literal_text : Lit → List ℕ
literal_text l = if is_positive l then decimal (variable l) else 45 ∷ decimal (variable l)

-- words, each with a space behind it
abbrev pub before_spaces : List (List ℕ) → List ℕ
before_spaces ws = flat_map (λ w. w ++ 32 ∷ []) ws

-- the line of a step, where `last` is the id of the last clause added before it, or 0
abbrev pub step_text : ℕ → Step → List ℕ
step_text last (Add id lits hints) =
    decimal id ++ codes " " ++ before_spaces (map literal_text lits) ++ codes "0 " ++
    before_spaces (map signed_decimal hints) ++ codes "0"
step_text last (Drop ids) =
    decimal last ++ codes " d " ++ before_spaces (map decimal ids) ++ codes "0"
step_text last (Bound id price) = decimal id ++ codes " b " ++ decimal price ++ codes " 0"

-- the id of the last clause added, after a step
abbrev pub last_added : ℕ → Step → ℕ
last_added last (Add id lits hints) = id
last_added last (Drop ids) = last
last_added last (Bound id price) = last

-- the lines of the steps, each with a line feed behind it
abbrev pub steps_text : ℕ → List Step → List ℕ
steps_text last [] = []
steps_text last (s ∷ ss) = step_text last s ++ (10 ∷ steps_text (last_added last s) ss)

abbrev pub log_text : Log → List ℕ
log_text log = steps_text 0 log.steps

-- an id from 1 to 2 ^ 63 - 1
abbrev pub IsId : ℕ → Type 0
IsId id = (0 < id) × (id < 2 ^ 63)

-- a literal of a variable from 1 to 2 ^ 63 - 1, and a hint other than 0 and of an absolute value
-- below 2 ^ 63
abbrev pub IsLiteral : Lit → Type 0
IsLiteral l = (0 < variable l) × (variable l < 2 ^ 63)

abbrev pub IsHint : ℤ → Type 0
IsHint h = (0 < unsigned_abs h) × (unsigned_abs h < 2 ^ 63)

-- what has a line: ids, literals and hints within their ranges
abbrev pub HasLine : Step → Type 0
HasLine (Add id lits hints) = IsId id × All IsLiteral lits × All IsHint hints
HasLine (Drop ids) = All IsId ids
HasLine (Bound id price) = IsId id × (price < 2 ^ 32)

-- the lines of a log's text are read as the log's steps
abbrev pub LinesAreReadAgain : Type 0
LinesAreReadAgain =
    (log : Log) → All HasLine log.steps →
    map reading (lines (log_text log)) ≡ map (λ s. Ok (Some s)) log.steps
