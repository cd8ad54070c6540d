-- How far the reading of clauses has come.
use Rattle.std.specs.Prelude.{◌≡◌, ℕ, ℤ, List, [], ◌∷◌, ◌++◌, map, Option, IsSomeAnd}
use Rattle.cnf_types.specs.declared.faults.CnfFault.{CnfFault}
use Rattle.cnf_types.specs.declared.faults.CnfFault.TheVariants.{BadHeader, BadNumber, Count}
use Rattle.cnf_types.specs.declared.faults.CnfFault.TheVariants.{TooLarge, Memory}
use Rattle.cnf_types.specs.declared.literal.Lit.{Lit}
use Rattle.cnf_types.specs.declared.clauses.Clause.{Clause}
use Rattle.cnf_types.specs.Dimacs.{pieces}

-- the pieces, the first of them with these literals before it
abbrev pub onto : List Lit → List (List Lit) → List (List Lit)
onto front [] = front ∷ []
onto front (p ∷ ps) = (front ++ p) ∷ ps

-- the pieces of the clauses so far, of the open one, and of what follows
abbrev pub pieces_after : List Clause → List Lit → List ℤ → List (List Lit)
pieces_after clauses front more = map (λ c. c.lits) clauses ++ onto front (pieces more)

-- the fault is that of the first bad line, or out of memory
abbrev pub IsFirstBad : CnfFault → Option (ℕ × List ℕ) → Type 0
IsFirstBad (BadNumber n) bad = IsSomeAnd bad (λ l. l.0 ≡ n)
IsFirstBad Memory bad = Unit {0}
IsFirstBad (BadHeader n) bad = ⊥
IsFirstBad (Count n) bad = ⊥
IsFirstBad (TooLarge kind n) bad = ⊥
