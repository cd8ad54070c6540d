-- The clauses of a formula in the rows of a table.
use Rattle.std.proofs.Common.{◌≡◌, ℕ, suc, zero, ◌+◌, ◌-◌, ◌≤◌, List, [], ◌∷◌, length, map, drop, refl}
use Rattle.std.proofs.Common.{ap, ap₂, sym, ◌∙◌, arith, All, Some, None, option_map, slice_get, sum_by, ⊎_elim, length-drop, length-take-le}
use Rattle.std.proofs.lemmas.Bool.{cases_eq, cond-true, cond-false, eq-eqb, ne_eqb}
use Rattle.std.proofs.lemmas.List.Elements.{All-head, All-tail}
use Rattle.std.proofs.lemmas.List.Sums.{sum_by-cons}
use Rattle.cnf_types.specs.declared.literal.Lit.{Lit}
use Rattle.cnf_types.specs.declared.clauses.Clause.{Clause}
use Rattle.proof_check.specs.declared.tables.Place.{Place}
use Rattle.proof_check.specs.Knowledge.{formula_clause}
use Rattle.proof_check.specs.Places.{IsPlace, clause_at, size}
use Rattle.proof_check.specs.Rows.{rows_of, row_size}
use Rattle.proof_check.specs.View.{near_or}

clause_below : (clauses : List Clause) (n : ℕ) → near_or (slice_get (map (λ (c : Clause). Some c.lits) clauses) n) None ≡ option_map (λ (c : Clause). c.lits) (slice_get clauses n)
clause_below [] zero = refl
clause_below [] (suc n) = refl
clause_below (c ∷ clauses) zero = refl
clause_below (c ∷ clauses) (suc n) = clause_below clauses n

-- the row of a number has the clause of that id
pub clause_in_row : (clauses : List Clause) (id : ℕ) → near_or (slice_get (rows_of clauses) id) None ≡ formula_clause clauses id
clause_in_row clauses zero = refl
clause_in_row clauses (suc n) = clause_below clauses n

size_of_row : (lits : List Lit) (p : Place) → IsPlace (length lits) p → row_size (clause_at lits p) ≡ size p
size_of_row lits p fits = ⊎_elim
    (λ (none : p.stop ≡ 0). ap row_size (cond-true _ _ _ (eq-eqb p.stop 0 none)) ∙ omega (arith, none))
    (λ (some : p.stop ≡ 0 → ⊥).
    let last : p.stop ≤ length lits + 1 = fits.stop in
    ap row_size (cond-false _ _ _ (ne_eqb p.stop 0 some)) ∙ length-take-le (p.stop - 1 - p.start) (drop p.start lits) (omega (arith, length-drop p.start lits, last)))
    (cases_eq p.stop 0)

-- and as many as stand at their places
pub sizes_at_places : (lits : List Lit) (ps : List Place) → All (IsPlace (length lits)) ps → sum_by row_size (map (clause_at lits) ps) ≡ sum_by size ps
sizes_at_places lits [] fits = refl
sizes_at_places lits (p ∷ ps) fits =
    sum_by-cons row_size (clause_at lits p) (map (clause_at lits) ps) ∙ ap₂ (λ n m. n + m) (size_of_row lits p (All-head (IsPlace (length lits)) p ps fits))
    (sizes_at_places lits ps (All-tail (IsPlace (length lits)) p ps fits)) ∙ sym (sum_by-cons size p ps)
