-- Accepted and refuting logs, and what they show.
use Rattle.std.specs.Prelude.{◌≡◌, ℕ, Bool, false, IsTrue, List, [], ◌∷◌, fold, Option, None}
use Rattle.std.specs.Prelude.{slice_get, IfSome}
use Rattle.std.specs.List.{list_any}
use Rattle.cnf_types.specs.declared.literal.Lit.{Lit}
use Rattle.cnf_types.specs.declared.clauses.Formula.{Formula}
use Rattle.cnf_types.specs.Literals.{negated}
use Rattle.cnf_types.specs.Formulas.{value, Satisfies}
use Rattle.proof_log.specs.declared.steps.Step.{Step}
use Rattle.proof_log.specs.declared.steps.Step.TheVariants.{Add, Drop, Bound}
use Rattle.proof_check.specs.Knowledge.{Knowledge, start, step_fault, after, is_empty_clause}

-- what is known after the steps of a log
abbrev pub after_all : Knowledge → List Step → Knowledge
after_all k steps = fold after k steps

-- each step is accepted
abbrev pub IsAccepted : Knowledge → List Step → Type 0
IsAccepted k [] = Unit {0}
IsAccepted k (s ∷ steps) = (step_fault k s ≡ None) × IsAccepted (after k s) steps

-- the step adds the empty clause
abbrev pub adds_empty : Step → Bool
adds_empty (Add id lits hints) = is_empty_clause lits
adds_empty (Drop ids) = false
adds_empty (Bound id price) = false

-- some step adds the empty clause
abbrev pub IsRefuting : List Step → Type 0
IsRefuting steps = IsTrue (list_any adds_empty steps)

-- the assignment keeps the price to the bound, if the step is one: the literal "the price is at
-- least W + 1" is false
abbrev pub StepKeepsBound : (ℕ → Bool) → List Lit → Step → Type 0
StepKeepsBound assignment tops (Add id lits hints) = Unit {0}
StepKeepsBound assignment tops (Drop ids) = Unit {0}
StepKeepsBound assignment tops (Bound id price) =
    IfSome (slice_get tops price) (λ top. IsTrue (value assignment (negated top)))

-- it keeps to all bounds of a log
abbrev pub KeepsBounds : (ℕ → Bool) → List Lit → List Step → Type 0
KeepsBounds assignment tops [] = Unit {0}
KeepsBounds assignment tops (s ∷ steps) =
    StepKeepsBound assignment tops s × KeepsBounds assignment tops steps

-- an accepted log that is refuting shows that no assignment satisfies the formula and keeps to the
-- bounds
abbrev pub AcceptedLogsAreSound : Type 0
AcceptedLogsAreSound =
    (f : Formula) (least : Option ℕ) (tops : List Lit) (steps : List Step) →
    IsAccepted (start f least tops) steps → IsRefuting steps →
    (assignment : ℕ → Bool) → Satisfies assignment f → KeepsBounds assignment tops steps → ⊥
