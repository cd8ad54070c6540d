-- How the pieces of a formula grow.
use Rattle.std.proofs.Common.{◌≡◌, ℤ, pos, Bool, true, false, List, [], ◌∷◌, ◌++◌, map, refl, ap, sym, ◌∙◌, append_assoc, append-nil}
use Rattle.std.specs.List.{slice_split, onto_first}
use Rattle.std.proofs.lemmas.List.{map_push}
use Rattle.cnf_types.specs.declared.literal.Lit.{Lit}
use Rattle.cnf_types.specs.declared.clauses.Clause.{Clause}
use Rattle.cnf_types.specs.Dimacs.{pieces, is_zero, literal_of}
use Rattle.cnf_types.specs.Progress.{onto, pieces_after}

onto_nothing_first : (z : ℤ) (ps : List (List ℤ)) → onto [] (map (map literal_of) (onto_first z ps)) ≡ map (map literal_of) (onto_first z ps)
onto_nothing_first z [] = refl
onto_nothing_first z (p ∷ ps) = refl

onto_nothing_step : (b : Bool) (z : ℤ) (ps : List (List ℤ)) →
    onto [] (map (map literal_of) (Rattle.std.specs.Prelude.cond b ([] ∷ ps) (onto_first z ps))) ≡ map (map literal_of) (Rattle.std.specs.Prelude.cond b ([] ∷ ps) (onto_first z ps))
onto_nothing_step true z ps = refl
onto_nothing_step false z ps = onto_nothing_first z ps

-- nothing before the pieces changes nothing
pub onto_nothing : (more : List ℤ) → onto [] (pieces more) ≡ pieces more
onto_nothing [] = refl
onto_nothing (z ∷ more) = onto_nothing_step (is_zero z) z (slice_split is_zero more)

-- a zero closes the clause
pub closing : (clauses : List Clause) (front : List Lit) (more : List ℤ) → pieces_after (clauses ++ record { lits = front } ∷ []) [] more ≡ pieces_after clauses front (pos 0 ∷ more)
closing clauses front more =
    let one : map (λ (c : Clause). c.lits) (clauses ++ record { lits = front } ∷ []) ≡ map (λ (c : Clause). c.lits) clauses ++ front ∷ [] =
    map_push (λ (c : Clause). c.lits) clauses (record { lits = front }) in
    ap (λ ls. ls ++ onto [] (pieces more)) one ∙ append_assoc (map (λ (c : Clause). c.lits) clauses) (front ∷ []) (onto [] (pieces more))
    ∙ ap (λ ps. map (λ (c : Clause). c.lits) clauses ++ front ∷ ps) (onto_nothing more) ∙ ap (λ f. map (λ (c : Clause). c.lits) clauses ++ f ∷ pieces more) (sym (append-nil front))

pub closing_is : (clauses after : List Clause) (front lits rest : List Lit) (z : ℤ) (more : List ℤ) → after ≡ clauses ++ record { lits = lits } ∷ [] →
    lits ≡ front → rest ≡ [] → z ≡ pos 0 → pieces_after after rest more ≡ pieces_after clauses front (z ∷ more)
closing_is clauses after front lits rest z more after_is lits_is rest_is z_is = rw (after_is, lits_is, rest_is, z_is) (closing clauses front more)
