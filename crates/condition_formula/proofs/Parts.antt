-- The parts of a clause, and that the written clause means the same.
use Rattle.std.proofs.Common.{◌≡◌, ℕ, ◌+◌, ◌*◌, ◌/◌, ◌%◌, ◌<◌, Bool, true, false, not, cond, ◌||◌, IsTrue, List, [], ◌∷◌}
use Rattle.std.proofs.Common.{◌++◌, map, All, Contains, inl, inr, ◌⊎◌, refl, sym, ap, ◌∙◌, subst, arith, Some, None, Option, filter_map, fold}
use Rattle.std.specs.Prelude.{◌==◌, if◌then◌else◌}
use Rattle.std.specs.List.{list_any, list_all, cons_option}
use Rattle.std.proofs.lemmas.Bool.{cases_Bool, eq-eqb, eqb-true, ne_eqb, or_cases, or_left, or_right, and_parts, and_from, false≢true, both_ways}
use Rattle.std.proofs.lemmas.List.Folds.{list_any-append}
use Rattle.std.proofs.lemmas.List.Elements.{All-nil, All-cons, All-head, All-tail}
use Rattle.arc_base.proofs.Items.{Contains-head, Contains-tail, Contains-cases, Contains-none}
use Rattle.cnf_types.specs.declared.literal.Lit.{Lit}
use Rattle.cnf_types.specs.declared.clauses.Clause.{Clause}
use Rattle.cnf_types.specs.Literals.{literal}
use Rattle.cnf_types.specs.Formulas.{value, clause_value}
use Rattle.condition_formula.specs.declared.condition.Condition.{Condition}
use Rattle.condition_formula.specs.declared.condition.Condition.TheVariants.{Always, Never, If, Unless}
use Rattle.condition_formula.specs.Conditions.{comes_true, IsOfEdits}
use Rattle.condition_formula.specs.declared.part.Part.{Part}
use Rattle.condition_formula.specs.declared.part.Part.TheVariants.{Fixed, Literal}
use Rattle.condition_formula.specs.Clauses.{edit_variable, affirmed, denied, part_value, parts_value, Fulfils, is_fixed_true, part_literal, with_new, distinct_lits, written, written_clauses}

pub any_from : {X : Type 0} (f : X → Bool) (xs : List X) (x : X) → Contains xs x → f x ≡ true → list_any f xs ≡ true
any_from f [] x m e = absurd (Contains-none x m)
any_from f (y ∷ xs) x m e =
    elim (Contains-cases y x xs m) [
      | inl same ↦ or_left (f y) (list_any f xs) (ap f same ∙ e)
      | inr later ↦ or_right (f y) (list_any f xs) (any_from f xs x later e)
    ]

pub any_to : {X : Type 0} (f : X → Bool) (xs : List X) → list_any f xs ≡ true → (x : X) × Contains xs x × (f x ≡ true)
any_to f [] e = absurd (false≢true e)
any_to f (y ∷ xs) e =
    elim (or_cases (f y) (list_any f xs) e) [
      | inl here ↦ (y, Contains-head y xs, here)
      | inr later ↦ let r = any_to f xs later in (r.0, Contains-tail y r.0 xs r.1, r.2)
    ]

pub all_from : {X : Type 0} (f : X → Bool) (xs : List X) → ((x : X) → Contains xs x → f x ≡ true) → list_all f xs ≡ true
all_from f [] h = refl
all_from f (y ∷ xs) h = and_from (f y) (list_all f xs) (h y (Contains-head y xs)) (all_from f xs (λ x m. h x (Contains-tail y x xs m)))

pub all_to : {X : Type 0} (f : X → Bool) (xs : List X) (x : X) → list_all f xs ≡ true → Contains xs x → f x ≡ true
all_to f [] x e m = absurd (Contains-none x m)
all_to f (y ∷ xs) x e m =
    let both = and_parts (f y) (list_all f xs) e in
    elim (Contains-cases y x xs m) [
      | inl same ↦ ap f (sym same) ∙ both.0
      | inr later ↦ all_to f xs x both.1 later
    ]

-- some item fails, if not all pass
pub all_or_some : {X : Type 0} (f : X → Bool) (xs : List X) → (list_all f xs ≡ true) ⊎ ((x : X) × Contains xs x × (f x ≡ false))
all_or_some f [] = inl refl
all_or_some f (y ∷ xs) =
    elim (cases_Bool (f y)) [
      | inl t ↦ elim (all_or_some f xs) [
        | inl rest ↦ inl (and_from (f y) (list_all f xs) t rest)
        | inr r ↦ inr (r.0, Contains-tail y r.0 xs r.1, r.2)
      ]
      | inr no_pass ↦ inr (y, Contains-head y xs, no_pass)
    ]

-- the first variables are the choices of the edits
abbrev pub Agrees : (ℕ → Bool) → (ℕ → Bool) → ℕ → Type 0
Agrees assignment chosen edits = (edit : ℕ) → edit < edits → assignment (edit_variable edit) ≡ chosen edit

pub affirmed_is : (a chosen : ℕ → Bool) (edits : ℕ) (c : Condition) → Agrees a chosen edits → IsOfEdits edits c → part_value a (affirmed c) ≡ comes_true chosen c
affirmed_is a chosen edits Always g o = refl
affirmed_is a chosen edits Never g o = refl
affirmed_is a chosen edits (If e) g o = g e o
affirmed_is a chosen edits (Unless e) g o = ap not (g e o)

twice : (b : Bool) → b ≡ not (not b)
twice true = refl
twice false = refl

pub denied_is : (a chosen : ℕ → Bool) (edits : ℕ) (c : Condition) → Agrees a chosen edits → IsOfEdits edits c → part_value a (denied c) ≡ not (comes_true chosen c)
denied_is a chosen edits Always g o = refl
denied_is a chosen edits Never g o = refl
denied_is a chosen edits (If e) g o = ap not (g e o)
denied_is a chosen edits (Unless e) g o = g e o ∙ twice (chosen e)

-- a literal has the value of its part
pub literal_value : (a : ℕ → Bool) (v : ℕ) (p : Bool) → value a (literal v p) ≡ part_value a (Literal v p)
literal_value a v true =
    let half : (2 * v) / 2 ≡ v = omega arith in
    let even : ((2 * v) % 2 == 0) ≡ true = eq-eqb ((2 * v) % 2) 0 (omega arith) in
    ap (λ (b : Bool). cond b (a ((2 * v) / 2)) (not (a ((2 * v) / 2)))) even ∙ ap a half
literal_value a v false =
    let half : (2 * v + 1) / 2 ≡ v = omega arith in
    let odd : ((2 * v + 1) % 2 == 0) ≡ false = ne_eqb ((2 * v + 1) % 2) 0 (λ e. omega arith) in
    ap (λ (b : Bool). cond b (a ((2 * v + 1) / 2)) (not (a ((2 * v + 1) / 2)))) odd ∙ ap (λ (n : ℕ). not (a n)) half

lit_same : (x y : Lit) → (x.code == y.code) ≡ true → x ≡ y
lit_same x y e = ap (λ (c : ℕ). let l : Lit = record { code = c } in l) (eqb-true x.code y.code e)

or_same : (x y : Bool) → (y ≡ true → x ≡ true) → x ≡ (x || (y || false))
or_same true y h = refl
or_same false true h = h refl
or_same false false h = refl

with_literal_value : (a : ℕ → Bool) (lits : List Lit) (lit : Lit) (b : Bool) → list_any (λ (l : Lit). l.code == lit.code) lits ≡ b →
    clause_value a (if b then lits else lits ++ lit ∷ []) ≡ (clause_value a lits || (value a lit || false))
with_literal_value a lits lit true e =
    let there = any_to (λ (l : Lit). l.code == lit.code) lits e in
    or_same (clause_value a lits) (value a lit) (λ t. any_from (value a) lits there.0 there.1 (ap (value a) (lit_same there.0 lit there.2) ∙ t))
with_literal_value a lits lit false e = list_any-append (value a) lits (lit ∷ [])

or_assoc : (x y z : Bool) → ((x || (y || false)) || z) ≡ (x || (y || z))
or_assoc true y z = refl
or_assoc false true z = refl
or_assoc false false z = refl

or_false : (x : Bool) → (x || false) ≡ x
or_false true = refl
or_false false = refl

fold_value : (a : ℕ → Bool) (front lits : List Lit) → clause_value a (fold with_new front lits) ≡ (clause_value a front || clause_value a lits)
fold_value a front [] = sym (or_false (clause_value a front))
fold_value a front (l ∷ lits) =
    fold_value a (with_new front l) lits
    ∙ ap (λ (b : Bool). b || clause_value a lits) (with_literal_value a front l (list_any (λ (x : Lit). x.code == l.code) front) refl)
    ∙ or_assoc (clause_value a front) (value a l) (clause_value a lits)

-- writing each literal once changes nothing
pub distinct_value : (a : ℕ → Bool) (lits : List Lit) → clause_value a (distinct_lits lits) ≡ clause_value a lits
distinct_value a lits = fold_value a [] lits

literals_value : (a : ℕ → Bool) (parts : List Part) → list_any is_fixed_true parts ≡ false → clause_value a (filter_map part_literal parts) ≡ parts_value a parts
literals_value a [] e = refl
literals_value a (Fixed true ∷ parts) e = absurd (both_ways true e refl)
literals_value a (Fixed false ∷ parts) e = literals_value a parts e
literals_value a (Literal v p ∷ parts) e =
    ap (λ (b : Bool). b || clause_value a (filter_map part_literal parts)) (literal_value a v p)
    ∙ ap (λ (b : Bool). part_value a (Literal v p) || b) (literals_value a parts e)

fixed_value : (a : ℕ → Bool) (part : Part) → is_fixed_true part ≡ true → part_value a part ≡ true
fixed_value a (Fixed b) e = e
fixed_value a (Literal v p) e = absurd (false≢true e)

-- what is written for this result of the test
abbrev written_if : Bool → List Part → Option (List Lit)
written_if b parts = if b then None else Some (distinct_lits (filter_map part_literal parts))

-- a clause that is left out is true
pub left_out : (a : ℕ → Bool) (parts : List Part) → list_any is_fixed_true parts ≡ true → parts_value a parts ≡ true
left_out a parts e =
    let r = any_to is_fixed_true parts e in
    any_from (part_value a) parts r.0 r.1 (fixed_value a r.0 r.2)

-- a clause that is written has the value of its parts
pub written_value : (a : ℕ → Bool) (parts : List Part) → list_any is_fixed_true parts ≡ false → clause_value a (distinct_lits (filter_map part_literal parts)) ≡ parts_value a parts
written_value a parts e = distinct_value a (filter_map part_literal parts) ∙ literals_value a parts e

abbrev clause_of : List Lit → Clause
clause_of lits = record { lits = lits }

-- the clauses of the rest, after the first one if that is written
abbrev onto_clauses : Option (List Lit) → List (List Lit) → List Clause
onto_clauses o rest = map clause_of (cons_option o rest)

first_to : (a : ℕ → Bool) (parts : List Part) (rest : List (List Lit)) (b : Bool) → list_any is_fixed_true parts ≡ b →
    IsTrue (parts_value a parts) → All (λ (c : Clause). IsTrue (clause_value a c.lits)) (map clause_of rest) →
    All (λ (c : Clause). IsTrue (clause_value a c.lits)) (onto_clauses (written_if b parts) rest)
first_to a parts rest true e t all = all
first_to a parts rest false e t all = All-cons (λ (c : Clause). IsTrue (clause_value a c.lits)) (clause_of (distinct_lits (filter_map part_literal parts))) (map clause_of rest)
    (written_value a parts e ∙ t) all

first_from : (a : ℕ → Bool) (parts : List Part) (rest : List (List Lit)) (b : Bool) → list_any is_fixed_true parts ≡ b →
    All (λ (c : Clause). IsTrue (clause_value a c.lits)) (onto_clauses (written_if b parts) rest) →
    IsTrue (parts_value a parts) × All (λ (c : Clause). IsTrue (clause_value a c.lits)) (map clause_of rest)
first_from a parts rest true e all = (left_out a parts e, all)
first_from a parts rest false e all = (
  sym (written_value a parts e) ∙ All-head (λ (c : Clause). IsTrue (clause_value a c.lits)) (clause_of (distinct_lits (filter_map part_literal parts))) (map clause_of rest) all,
  All-tail (λ (c : Clause). IsTrue (clause_value a c.lits)) (clause_of (distinct_lits (filter_map part_literal parts))) (map clause_of rest) all,
)

-- an assignment makes the written clauses true exactly if it makes the clauses true that they were written from
pub written_from_fulfils : (a : ℕ → Bool) (clauses : List (List Part)) → Fulfils a clauses → All (λ (c : Clause). IsTrue (clause_value a c.lits)) (written_clauses clauses)
written_from_fulfils a [] h = All-nil (λ (c : Clause). IsTrue (clause_value a c.lits))
written_from_fulfils a (parts ∷ clauses) h =
    first_to a parts (filter_map written clauses) (list_any is_fixed_true parts) refl (h parts (Contains-head parts clauses))
    (written_from_fulfils a clauses (λ ps m. h ps (Contains-tail parts ps clauses m)))

pub fulfils_from_written : (a : ℕ → Bool) (clauses : List (List Part)) → All (λ (c : Clause). IsTrue (clause_value a c.lits)) (written_clauses clauses) → Fulfils a clauses
fulfils_from_written a [] all ps m = absurd (Contains-none ps m)
fulfils_from_written a (parts ∷ clauses) all ps m =
    let both = first_from a parts (filter_map written clauses) (list_any is_fixed_true parts) refl all in
    elim (Contains-cases parts ps clauses m) [
      | inl same ↦ subst (λ (x : List Part). IsTrue (parts_value a x)) same both.0
      | inr later ↦ fulfils_from_written a clauses both.1 ps later
    ]
