-- Unit propagation along hints. A set of literals is a test.
use Rattle.std.specs.Prelude.{ℕ, ◌+◌, ℤ, pos, negsuc, Bool, if◌then◌else◌, ◌==◌, ◌||◌, not, List}
use Rattle.std.specs.Prelude.{[], ◌∷◌, filter, Option, Some, None}
use Rattle.std.specs.List.{list_any, list_all}
use Rattle.cnf_types.specs.declared.literal.Lit.{Lit}
use Rattle.cnf_types.specs.Literals.{negated}
use Rattle.proof_check.specs.declared.faults.StepFault.{StepFault}
use Rattle.proof_check.specs.declared.faults.StepFault.TheVariants.{NegativeHint, UnknownId}
use Rattle.proof_check.specs.declared.faults.StepFault.TheVariants.{HintNotUnit, NoConflict}
use Rattle.proof_check.specs.declared.left.Left.{Left}
use Rattle.proof_check.specs.declared.left.Left.TheVariants.{Nothing, One, More}

-- whether two literals are the same
abbrev pub same : Lit → Lit → Bool
same l m = l.code == m.code

-- the set of the literals of a clause
abbrev pub is_among : List Lit → Lit → Bool
is_among lits m = list_any (λ l. same l m) lits

-- the set with one literal more
abbrev pub with_literal : Lit → (Lit → Bool) → Lit → Bool
with_literal l falses m = same l m || falses m

-- the literals of a clause that are not in the set
abbrev pub left : (Lit → Bool) → List Lit → List Lit
left falses lits = filter (λ l. not (falses l)) lits

-- these are the literal alone, or others too
abbrev pub one_or_more : Lit → List Lit → Left
one_or_more l ls = if list_all (same l) ls then One l else More

-- how many different literals these are
abbrev pub left_of : List Lit → Left
left_of [] = Nothing
left_of (l ∷ ls) = one_or_more l ls

-- a clause of which nothing is left ends the chain, and of one of which one literal is left goes on
-- with it
abbrev pub left_fault : Left → ℕ → (Lit → Option StepFault) → Option StepFault
left_fault Nothing place next = None
left_fault (One l) place next = next l
left_fault More place next = Some (HintNotUnit place)

-- the same of the clause of a hint, where there is one
abbrev pub hint_fault : Option (List Lit) → (Lit → Bool) → ℕ →
    (Lit → Option StepFault) → Option StepFault
hint_fault None falses place next = Some (UnknownId place)
hint_fault (Some lits) falses place next = left_fault (left_of (left falses lits)) place next

-- why unit propagation along the hints, with these literals false, does not end in a conflict; none
-- where it does.
-- The negation of the one literal that is left joins the false ones.
abbrev pub chain_fault : (ℕ → Option (List Lit)) → (Lit → Bool) → ℕ → List ℤ → Option StepFault
chain_fault clause falses place [] = Some NoConflict
chain_fault clause falses place (negsuc n ∷ hints) = Some (NegativeHint place)
chain_fault clause falses place (pos id ∷ hints) =
    hint_fault (clause id) falses place (λ l.
    chain_fault clause (with_literal (negated l) falses) (place + 1) hints)
