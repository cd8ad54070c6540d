-- The clauses at spans where literals are added at the end.
use Rattle.std.proofs.Common.{◌≡◌, ℕ, ◌+◌, ◌-◌, ◌≤◌, List, [], ◌∷◌, ◌++◌, length, take, drop, map, refl, ap, ap₂, ◌∙◌, arith, All, length-append, length-drop}
use Rattle.std.proofs.Math.Seq.{drop-append_seam}
use Rattle.std.proofs.lemmas.List.{drop-append-le, take-append-le, take_all}
use Rattle.std.proofs.lemmas.List.Elements.{All-head, All-tail, All-weaker}
use Rattle.cnf_types.specs.declared.literal.Lit.{Lit}
use Rattle.cnf_types.specs.declared.clauses.Clause.{Clause}
use Rattle.packed_formula.specs.declared.clauses.Span.{Span}
use Rattle.packed_formula.specs.Packed.{IsSpan, clause_at}

abbrev clause_of : List Lit → Clause
clause_of lits = record { lits = lits }

clause_before : (lits more : List Lit) (p : Span) → IsSpan (length lits) p → clause_at (lits ++ more) p ≡ clause_at lits p
clause_before lits more p h =
    let first : p.start ≤ p.stop = h.start in
    let last : p.stop ≤ length lits = h.stop in
    let begins : p.start ≤ length lits = omega arith in
    let ends : p.stop - p.start ≤ length (drop p.start lits) = omega (arith, length-drop p.start lits) in
    ap clause_of (ap (take (p.stop - p.start)) (drop-append-le p.start lits more begins) ∙ take-append-le (p.stop - p.start) (drop p.start lits) more ends)

-- the same clauses among more literals
pub clauses_before : (lits more : List Lit) (ps : List Span) → All (IsSpan (length lits)) ps → map (clause_at (lits ++ more)) ps ≡ map (clause_at lits) ps
clauses_before lits more [] h = refl
clauses_before lits more (p ∷ ps) h =
    ap₂ (λ x xs. x ∷ xs) (clause_before lits more p (All-head (IsSpan (length lits)) p ps h)) (clauses_before lits more ps (All-tail (IsSpan (length lits)) p ps h))

-- the clause of the added literals
pub clause_pushed : (lits more : List Lit) (p : Span) → p.start ≡ length lits → p.stop ≡ length (lits ++ more) → clause_at (lits ++ more) p ≡ clause_of more
clause_pushed lits more p start_is stop_is =
    let size : length (lits ++ more) ≡ length lits + length more = length-append lits more in
    let behind : drop p.start (lits ++ more) ≡ more = rw start_is (drop-append_seam lits more) in
    ap clause_of (ap (take (p.stop - p.start)) behind ∙ take_all (p.stop - p.start) more (omega arith))

-- more literals leave the spans as they are
pub more_spans : (n m : ℕ) (ps : List Span) → n ≤ m → All (IsSpan n) ps → All (IsSpan m) ps
more_spans n m ps more h = All-weaker (IsSpan n) (IsSpan m) (λ p k. let last : p.stop ≤ n = k.stop in record { start = k.start; stop = omega arith }) ps h
