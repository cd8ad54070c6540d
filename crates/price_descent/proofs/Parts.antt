-- One clause of a formula more in a core.
use Rattle.std.proofs.Common.{◌≡◌, ◌≢◌, ℕ, zero, suc, ◌+◌, ◌<◌, ◌≤◌, max, ◌==◌, Bool, true, false, cond, IsTrue, List, [], ◌∷◌, length, All, find, slice_get, get_or, slice_set, replicate}
use Rattle.std.proofs.Common.{refl, ap, sym, ◌∙◌, inl, inr, arith, Option, Some, None, option_map}
use Rattle.std.proofs.lemmas.Bool.{false≢true, eq-eqb, ne_eqb, cases_eq}
use Rattle.std.proofs.lemmas.List.{get_or_past, get_or-replicate, get_or-set_same, get_or-set_other, length-replicate, length-set}
use Rattle.std.proofs.lemmas.List.Elements.{All-append, All-cons, All-nil, All-weaker}
use Rattle.std.proofs.lemmas.Option.{none-some, same_Some, slice_get_cases, slice_get_within, slice_get-get_or}
use Rattle.cnf_types.specs.declared.literal.Lit.{Lit}
use Rattle.cnf_types.specs.declared.clauses.Clause.{Clause}
use Rattle.cnf_types.specs.declared.clauses.Formula.{Formula}
use Rattle.proof_check.specs.Knowledge.{formula_clause}
use Rattle.sat_core.specs.declared.numbered.Numbered.{Numbered}
use Rattle.sat_core.specs.States.{State, with_clause, no_clauses}
use Rattle.sat_search.specs.Live.{clause_in}
use Rattle.sat_search.proofs.Held.{held_push}
use Rattle.sat_search.proofs.Lives.{some_is, ids_to}
use Rattle.price_descent.specs.Loading.{HasPart, HasFormula, is_there}

-- a clause that is not found is not there
not_first : (d : Numbered) (clauses : List Numbered) (id : ℕ) (b : Bool) → (d.id == id) ≡ b →
    option_map (λ (e : Numbered). e.lits) (cond b (Some d) (find (λ (e : Numbered). e.id == id) clauses)) ≡ None → (b ≡ false) × (clause_in clauses id ≡ None)
not_first d clauses id true e none = absurd (none-some d.lits (sym none))
not_first d clauses id false e none = (refl, none)

not_there : (clauses : List Numbered) (id k : ℕ) (c : Numbered) → clause_in clauses id ≡ None → slice_get clauses k ≡ Some c → c.id ≡ id → ⊥
not_there [] id k c none at is = none-some c at
not_there (d ∷ clauses) id zero c none at is =
    let first = not_first d clauses id (d.id == id) refl none in
    false≢true (sym first.0 ∙ eq-eqb d.id id (ap (λ (e : Numbered). e.id) (same_Some d c at) ∙ is))
not_there (d ∷ clauses) id (suc k) c none at is = not_there clauses id k c (not_first d clauses id (d.id == id) refl none).1 at is

no_flag : (flags : List Bool) (n : ℕ) → flags ≡ replicate n false → (id : ℕ) → is_there flags id ≡ false
no_flag flags n are id = elim (slice_get_cases flags id).1 [
  | inl some ↦ ap (λ (bs : List Bool). get_or bs id false) are ∙ get_or-replicate n id false false (omega (arith, some.1, ap length are ∙ length-replicate n false))
  | inr past ↦ get_or_past flags id false past.0
]

-- nothing is there at first
pub none_there : (f : Formula) (there : List Bool) → there ≡ replicate (length f.clauses + 1) false → HasPart f there (no_clauses f.vars)
none_there f there are = record {
  level = refl;
  vars = refl;
  size = ap length are ∙ length-replicate (length f.clauses + 1) false;
  last_id = omega arith;
  positive = All-nil (λ (c : Numbered). 1 ≤ c.id);
  known = All-nil (λ (c : Numbered). c.id ≤ 0);
  clauses = λ id. ap (λ (b : Bool). cond b (formula_clause f.clauses id) None) (sym (no_flag there (length f.clauses + 1) are id));
}

-- the clause at a place, which is not there
module _ (f : Formula) (there : List Bool) (s : State) (part : HasPart f there s) (place : ℕ) (lits : List Lit) (c : Clause) (at : slice_get f.clauses place ≡ Some c)
    (is : c.lits ≡ lits) (off : is_there there (place + 1) ≡ false) where
  abbrev id : ℕ
  id = place + 1

  abbrev one : Numbered
  one = record { id = id; lits = lits }

  within : place < length f.clauses
  within = slice_get_within f.clauses place c at

  none : clause_in s.clauses id ≡ None
  none = part.clauses id ∙ ap (λ (b : Bool). cond b (formula_clause f.clauses id) None) off

  apart : (k : ℕ) (d : Numbered) → slice_get s.clauses k ≡ Some d → d.id ≡ id → ⊥
  apart k d = not_there s.clauses id k d none

  pub fresh : All (λ d. d.id ≢ place + 1) s.clauses
  fresh = λ k d low e. apart k (get_or s.clauses k d) (slice_get-get_or s.clauses k d low) e

  formula_has : (j : ℕ) → id ≡ j → Some lits ≡ formula_clause f.clauses j
  formula_has zero e = absurd (omega (arith, e))
  formula_has (suc j) e =
      let here : place ≡ j = omega (arith, e) in
      ap Some (sym is) ∙ sym (ap (option_map (λ (d : Clause). d.lits)) (ap (slice_get f.clauses) (sym here) ∙ at))

  long : place + 1 < length there
  long = omega (arith, part.size, within)

  -- each clause by its id
  found : (j : ℕ) → clause_in (with_clause s id lits).clauses j ≡ cond (is_there (slice_set there (place + 1) true) j) (formula_clause f.clauses j) None
  found j = held_push s.clauses id lits apart j ∙ elim (cases_eq id j) [
    | inl here ↦
        ap (λ (b : Bool). cond b (Some lits) (clause_in s.clauses j)) (eq-eqb id j here) ∙ formula_has j here
        ∙ ap (λ (b : Bool). cond b (formula_clause f.clauses j) None)
        (sym (ap (λ (n : ℕ). is_there (slice_set there (place + 1) true) n) (sym here) ∙ get_or-set_same there (place + 1) true false long))
    | inr other ↦
        ap (λ (b : Bool). cond b (Some lits) (clause_in s.clauses j)) (ne_eqb id j other) ∙ part.clauses j
        ∙ ap (λ (b : Bool). cond b (formula_clause f.clauses j) None) (sym (get_or-set_other there (place + 1) j true false (λ e. other (sym e))))
  ]

  pub entered : HasPart f (slice_set there (place + 1) true) (with_clause s (place + 1) lits)
  entered = record {
    level = part.level;
    vars = part.vars;
    size = length-set there (place + 1) true ∙ part.size;
    last_id = omega (arith, part.last_id, within);
    positive = All-append (λ d. 1 ≤ d.id) s.clauses (one ∷ []) part.positive (All-cons (λ (d : Numbered). 1 ≤ d.id) one [] (omega arith) (All-nil _));
    known = All-append (λ d. d.id ≤ max s.last_id id) s.clauses (one ∷ [])
        (All-weaker (λ (d : Numbered). d.id ≤ s.last_id) (λ d. d.id ≤ max s.last_id id) (λ d h. omega (arith, h)) s.clauses part.known)
        (All-cons (λ (d : Numbered). d.id ≤ max s.last_id id) one [] (omega arith) (All-nil _));
    clauses = found;
  }

-- a flag that is set leaves the others set
pub flags_kept : (there : List Bool) (i : ℕ) → i < length there → (id : ℕ) → IsTrue (is_there there id) → IsTrue (is_there (slice_set there i true) id)
flags_kept there i long id on = elim (cases_eq id i) [
  | inl here ↦ ap (λ (n : ℕ). is_there (slice_set there i true) n) here ∙ get_or-set_same there i true false long
  | inr other ↦ get_or-set_other there i id true false other ∙ on
]

-- where all are there, the core has the formula
module _ (f : Formula) (there : List Bool) (s : State) (part : HasPart f there s) (all : (place : ℕ) → place < length f.clauses → IsTrue (is_there there (place + 1))) where
  no_branch : (b : Bool) (o : Option (List Lit)) → o ≡ None → cond b o None ≡ None
  no_branch true o e = e
  no_branch false o e = refl

  abbrev lits_of : Option Clause → Option (List Lit)
  lits_of o = option_map (λ (d : Clause). d.lits) o

  every : (id : ℕ) → formula_clause f.clauses id ≡ clause_in s.clauses id
  every zero = sym (part.clauses zero ∙ no_branch (is_there there zero) None refl)
  every (suc n) =
      let number : suc n ≡ n + 1 = omega arith in
      elim (slice_get_cases f.clauses n).1 [
        | inl some ↦
            let on : is_there there (suc n) ≡ true = ap (is_there there) number ∙ all n some.1 in
            sym (part.clauses (suc n) ∙ ap (λ (b : Bool). cond b (formula_clause f.clauses (suc n)) None) on)
        | inr past ↦
            let off : formula_clause f.clauses (suc n) ≡ None = ap lits_of past.1 in
            off ∙ sym (part.clauses (suc n) ∙ no_branch (is_there there (suc n)) (formula_clause f.clauses (suc n)) off)
      ]

  reached : (n : ℕ) → n ≡ length f.clauses → n ≤ s.last_id
  reached zero e = omega arith
  reached (suc m) e =
      let none : Clause = record { lits = [] } in
      let here : formula_clause f.clauses (suc m) ≡ Some (get_or f.clauses m none).lits = ap lits_of (slice_get-get_or f.clauses m none (omega (arith, e))) in
      ids_to s.clauses s.last_id part.known (suc m) (some_is (clause_in s.clauses (suc m)) (get_or f.clauses m none).lits (sym (every (suc m)) ∙ here))

  pub all_there : HasFormula f s
  all_there =
      let enough : length f.clauses ≤ s.last_id = reached (length f.clauses) refl in
      record {
        level = part.level;
        vars = part.vars;
        last_id = omega (arith, part.last_id, enough);
        positive = part.positive;
        known = part.known;
        clauses = every;
      }
