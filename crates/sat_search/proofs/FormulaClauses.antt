-- Clauses by their ids: those of a formula, and one of those of a core.
use Rattle.std.proofs.Common.{◌≡◌, ℕ, zero, suc, ◌+◌, ◌<◌, ◌==◌, true, false, List, [], ◌∷◌, map, find, length, slice_get, get_or, All, Some, None, option_map, refl, ap, sym, ◌∙◌, subst, arith}
use Rattle.std.specs.List.{enumerate_from}
use Rattle.std.proofs.lemmas.Bool.{eq-eqb, ne_eqb}
use Rattle.std.proofs.lemmas.Option.{slice_get-get_or}
use Rattle.cnf_types.specs.declared.literal.Lit.{Lit}
use Rattle.cnf_types.specs.declared.clauses.Clause.{Clause}
use Rattle.proof_check.specs.Knowledge.{formula_clause}
use Rattle.sat_core.specs.declared.numbered.Numbered.{Numbered}
use Rattle.sat_search.specs.Live.{clause_in}
use Rattle.sat_search.specs.Cores.{numbered}
use Rattle.sat_search.proofs.Held.{at_held}
use Rattle.sat_search.proofs.Learnt.{all_at}
use Rattle.sat_search.proofs.Numbering.{with_id}

found_at : (n j id : ℕ) (clauses : List Clause) → id ≡ n + j →
    option_map (λ c. c.lits) (find (λ c. c.id == id) (map with_id (enumerate_from n clauses))) ≡ option_map (λ c. c.lits) (slice_get clauses j)
found_at n j id [] is = refl
found_at n zero id (c ∷ cs) is =
    let hit : (n == id) ≡ true = eq-eqb n id (omega (arith, is)) in
    rw hit refl
found_at n (suc j) id (c ∷ cs) is =
    let miss : (n == id) ≡ false = ne_eqb n id (λ e. omega (arith, is, e)) in
    rw miss (found_at (n + 1) j id cs (omega (arith, is)))

none_below : (n id : ℕ) (clauses : List Clause) → id < n → option_map (λ c. c.lits) (find (λ c. c.id == id) (map with_id (enumerate_from n clauses))) ≡ None
none_below n id [] below = refl
none_below n id (c ∷ cs) below =
    let miss : (n == id) ≡ false = ne_eqb n id (λ e. omega (arith, below, e)) in
    rw miss (none_below (n + 1) id cs (omega (arith, below)))

pub live_are : (clauses : List Clause) (id : ℕ) → formula_clause clauses id ≡ clause_in (numbered clauses) id
live_are clauses zero = sym (none_below 1 0 clauses (omega arith))
live_are clauses (suc j) = sym (found_at 1 j (suc j) clauses (omega arith))

-- the clause at a place has the id that is one more
pub live_at : (clauses : List Clause) (k : ℕ) (d : Clause) → k < length clauses → clause_in (numbered clauses) (suc k) ≡ Some (get_or clauses k d).lits
live_at clauses k d low = sym (live_are clauses (suc k)) ∙ ap (option_map (λ (c : Clause). c.lits)) (slice_get-get_or clauses k d low)

-- what holds of all clauses holds of the one that has an id
pub of_id : (P : List Lit → Type 0) (clauses : List Numbered) → All (λ c. P c.lits) clauses → (id : ℕ) (lits : List Lit) → clause_in clauses id ≡ Some lits → P lits
of_id P clauses all id lits is =
    let held = at_held clauses id lits is in
    subst P held.lits_are (all_at (λ (c : Numbered). P c.lits) clauses held.place held.clause all held.at)
