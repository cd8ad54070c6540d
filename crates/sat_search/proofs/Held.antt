-- The live clauses of a core by their ids.
use Rattle.std.proofs.Common.{◌≡◌, ◌≢◌, ℕ, suc, ◌<◌, Bool, true, false, cond, inl, inr, List, [], ◌∷◌, ◌++◌, length, slice_get, get_or, refl, ap, sym, ◌∙◌, arith, Option, Some, None, find, option_map}
use Rattle.std.specs.Prelude.{◌==◌, AllPairs}
use Rattle.std.specs.List.{position_or_len}
use Rattle.std.specs.Option.{option_or}
use Rattle.std.proofs.lemmas.Bool.{eq-eqb, ne_eqb, eqb-true, cases_eq}
use Rattle.std.proofs.lemmas.Option.{none-some, same_Some, slice_get_within, get_or_from_slice_get}
use Rattle.std.proofs.lemmas.List.Folds.{find_at, find-append}
use Rattle.std.proofs.lemmas.List.Sums.{position_or_len_is}
use Rattle.cnf_types.specs.declared.literal.Lit.{Lit}
use Rattle.proof_check.specs.Knowledge.{with_clause}
use Rattle.sat_core.specs.declared.numbered.Numbered.{Numbered}
use Rattle.sat_search.specs.Live.{clause_in}

abbrev has_id : ℕ → Numbered → Bool
has_id id c = c.id == id

-- a clause of the list is found by its id
pub held_at : (clauses : List Numbered) (k : ℕ) (c : Numbered) → AllPairs (λ d e. d.id ≢ e.id) clauses → slice_get clauses k ≡ Some c → clause_in clauses c.id ≡ Some c.lits
held_at clauses k c different at =
    let low : k < length clauses = slice_get_within clauses k c at in
    let here : get_or clauses k c ≡ c = get_or_from_slice_get clauses k c c at in
    let place : position_or_len (has_id c.id) clauses ≡ k = position_or_len_is (has_id c.id) clauses k c (omega arith)
    (λ j below. ne_eqb (get_or clauses j c).id c.id (λ e. different j k c below low (e ∙ ap (λ (x : Numbered). x.id) (sym here))))
    (λ within. eq-eqb (get_or clauses k c).id c.id (ap (λ (x : Numbered). x.id) here)) in
    ap (option_map (λ (d : Numbered). d.lits)) (find_at (has_id c.id) clauses ∙ ap (slice_get clauses) place ∙ at)

-- what is found is a clause of the list
pub record IsHeld (clauses : List Numbered) (id : ℕ) (lits : List Lit) : Type 0 where
  pub clause : Numbered
  pub place : ℕ
  pub at : slice_get clauses place ≡ Some clause
  pub id_is : clause.id ≡ id
  pub lits_are : clause.lits ≡ lits

held-later : (c : Numbered) (clauses : List Numbered) (id : ℕ) (lits : List Lit) → IsHeld clauses id lits → IsHeld (c ∷ clauses) id lits
held-later c clauses id lits h = record { clause = h.clause; place = suc h.place; at = h.at; id_is = h.id_is; lits_are = h.lits_are }

found-here : (c : Numbered) (clauses : List Numbered) (id : ℕ) (lits : List Lit) (b : Bool) → has_id id c ≡ b →
    (clause_in clauses id ≡ Some lits → IsHeld clauses id lits) → option_map (λ (d : Numbered). d.lits) (cond b (Some c) (find (has_id id) clauses)) ≡ Some lits → IsHeld (c ∷ clauses) id lits
found-here c clauses id lits true e rest h = record { clause = c; place = 0; at = refl; id_is = eqb-true c.id id e; lits_are = same_Some c.lits lits h }
found-here c clauses id lits false e rest h = held-later c clauses id lits (rest h)

pub at_held : (clauses : List Numbered) (id : ℕ) (lits : List Lit) → clause_in clauses id ≡ Some lits → IsHeld clauses id lits
at_held [] id lits h = absurd (none-some lits h)
at_held (c ∷ clauses) id lits h = found-here c clauses id lits (has_id id c) refl (at_held clauses id lits) h

-- an id that no clause has
absent-here : (c : Numbered) (clauses : List Numbered) (id : ℕ) (b : Bool) → has_id id c ≡ b → (c.id ≡ id → ⊥) → find (has_id id) clauses ≡ None → cond b (Some c) (find (has_id id) clauses) ≡ None
absent-here c clauses id true e apart rest = absurd (apart (eqb-true c.id id e))
absent-here c clauses id false e apart rest = rest

absent : (clauses : List Numbered) (id : ℕ) → ((k : ℕ) (c : Numbered) → slice_get clauses k ≡ Some c → c.id ≡ id → ⊥) → find (has_id id) clauses ≡ None
absent [] id apart = refl
absent (c ∷ clauses) id apart = absent-here c clauses id (has_id id c) refl (apart 0 c refl) (absent clauses id (λ k d at. apart (suc k) d at))

or-none : (o : Option Numbered) → option_or o None ≡ o
or-none None = refl
or-none (Some c) = refl

-- one clause more, under an id of its own
pub held_push : (clauses : List Numbered) (id : ℕ) (lits : List Lit) → ((k : ℕ) (c : Numbered) → slice_get clauses k ≡ Some c → c.id ≡ id → ⊥) → (j : ℕ) →
    clause_in (clauses ++ record { id = id; lits = lits } ∷ []) j ≡ with_clause (clause_in clauses) id lits j
held_push clauses id lits apart j =
    let one : List Numbered = record { id = id; lits = lits } ∷ [] in
    let parts = ap (option_map (λ (d : Numbered). d.lits)) (find-append (has_id j) clauses one) in
    elim (cases_eq id j) [
      | inl is ↦
          let here : (id == j) ≡ true = eq-eqb id j is in
          let none : find (has_id j) clauses ≡ None = absent clauses j (λ k c at e. apart k c at (e ∙ sym is)) in
          parts ∙ ap (λ (o : Option Numbered). option_map (λ (d : Numbered). d.lits) (option_or o (find (has_id j) one))) none
          ∙ ap (λ (b : Bool). option_map (λ (d : Numbered). d.lits) (cond b (Some (record { id = id; lits = lits })) None)) here
          ∙ ap (λ (b : Bool). cond b (Some lits) (clause_in clauses j)) (sym here)
      | inr other ↦
          let off : (id == j) ≡ false = ne_eqb id j other in
          parts ∙ ap (λ (b : Bool). option_map (λ (d : Numbered). d.lits) (option_or (find (has_id j) clauses) (cond b (Some (record { id = id; lits = lits })) None))) off
          ∙ ap (option_map (λ (d : Numbered). d.lits)) (or-none (find (has_id j) clauses)) ∙ ap (λ (b : Bool). cond b (Some lits) (clause_in clauses j)) (sym off)
    ]
