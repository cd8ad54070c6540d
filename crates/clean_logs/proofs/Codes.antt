-- A clause over the variables from 1 to n is told by a number below 3 ^ n.
use Rattle.std.proofs.Common.{◌≡◌, ◌≢◌, ℕ, zero, suc, ◌+◌, ◌*◌, ◌<◌, ◌≤◌, ◌^◌, ◌⊎◌, Bool, true, false, if◌then◌else◌, ◌%◌, ◌||◌}
use Rattle.std.proofs.Common.{List, [], ◌∷◌, All, AllPairs, Contains, refl, sym, ap, ◌∙◌, subst, arith, inl, inr, ⊎_elim, length, get_or}
use Rattle.std.specs.List.{list_any}
use Rattle.std.proofs.Math.Nat.{pow-suc}
use Rattle.std.proofs.lemmas.Bool.{cases_Bool, cases_lt, cases_eq, false≢true, or_cases, eqb-true, eq-eqb}
use Rattle.std.proofs.lemmas.List.{get_or_default}
use Rattle.arc_base.proofs.Items.{Contains-head, Contains-tail, Contains-cases, Contains-none}
use Rattle.cnf_types.specs.declared.literal.Lit.{Lit}
use Rattle.cnf_types.specs.Literals.{literal, variable}
use Rattle.proof_check.specs.Propagation.{same, is_among}
use Rattle.clean_logs.specs.Lemmas.{HasDifferentVariables}
use Rattle.clean_logs.specs.Laws.{IsWithin}

abbrev of_code : ℕ → Lit
of_code n = record { code = n }

pub same_literal : (l m : Lit) → same l m ≡ true → l ≡ m
same_literal l m e = ap of_code (eqb-true l.code m.code e)

pub same-itself : (l : Lit) → same l l ≡ true
same-itself l = eq-eqb l.code l.code refl

-- the test of a clause's literals is right
pub contains_among : (lits : List Lit) (m : Lit) → is_among lits m ≡ true → Contains lits m
contains_among [] m e = absurd (false≢true e)
contains_among (l ∷ lits) m e = ⊎_elim
    (λ (here : same l m ≡ true). subst (Contains (l ∷ lits)) (same_literal l m here) (Contains-head l lits))
    (λ (there : is_among lits m ≡ true). Contains-tail l m lits (contains_among lits m there))
    (or_cases (same l m) (is_among lits m) e)

pub among_contains : (lits : List Lit) (m : Lit) → Contains lits m → is_among lits m ≡ true
among_contains [] m h = absurd (Contains-none m h)
among_contains (l ∷ lits) m h = elim (Contains-cases l m lits h) [
  | inl e ↦ ap (λ b. b || is_among lits m) (eq-eqb l.code m.code (ap (λ (x : Lit). x.code) e))
  | inr there ↦ elim (same l m) as (λ b. b || is_among lits m ≡ true) [ true ↦ refl | false ↦ among_contains lits m there ]
]

-- what the clause says of a variable: nothing, the variable, or its negation
abbrev pub digit : List Lit → ℕ → ℕ
digit lits v = if is_among lits (literal v true) then 1 else (if is_among lits (literal v false) then 2 else 0)

-- and of the variables from 1 to n
abbrev pub code : List Lit → ℕ → ℕ
code lits zero = 0
code lits (suc n) = 3 * code lits n + digit lits (suc n)

pub digit_small : (lits : List Lit) (v : ℕ) → digit lits v ≤ 2
digit_small lits v = elim (is_among lits (literal v true)) as (λ b. (if b then 1 else (if is_among lits (literal v false) then 2 else 0)) ≤ 2) [
  | true ↦ omega arith
  | false ↦ elim (is_among lits (literal v false)) as (λ b. (if b then 2 else 0) ≤ 2) [ true ↦ omega arith | false ↦ omega arith ]
]

pub code_small : (lits : List Lit) (n : ℕ) → code lits n < 3 ^ n
code_small lits zero = omega arith
code_small lits (suc n) =
    let one : 3 ^ suc n ≡ 3 ^ n * 3 = pow-suc 3 n in
    omega (arith, one, code_small lits n, digit_small lits (suc n))

-- one number, one digit for each variable
pub same_digits : (c d : List Lit) (n : ℕ) → code c n ≡ code d n → (v : ℕ) → 1 ≤ v → v ≤ n → digit c v ≡ digit d v
same_digits c d zero e v least most = absurd (omega (arith, least, most))
same_digits c d (suc n) e v least most =
    let rest : code c n ≡ code d n = omega (arith, e, digit_small c (suc n), digit_small d (suc n)) in
    let last : digit c (suc n) ≡ digit d (suc n) = omega (arith, e, rest) in
    elim (cases_lt v (suc n)) [
      | inl before ↦ same_digits c d n rest v least (omega (arith, before))
      | inr past ↦ let is : suc n ≡ v = omega (arith, most, past) in subst (λ w. digit c w ≡ digit d w) is last
    ]

-- a literal is its variable or that one's negation
is_literal : (l : Lit) → (l ≡ literal (variable l) true) ⊎ (l ≡ literal (variable l) false)
is_literal l = ⊎_elim
    (λ (e : l.code % 2 ≡ 0). inl (ap of_code (omega (arith, e))))
    (λ (h : l.code % 2 ≡ 0 → ⊥). inr (ap of_code (omega (arith, h))))
    (cases_eq (l.code % 2) 0)

variable_literal : (v : ℕ) (b : Bool) → variable (literal v b) ≡ v
variable_literal v true = omega arith
variable_literal v false = omega arith

-- in a clause of different variables
pub one_of_a_variable : (lits : List Lit) → HasDifferentVariables lits → (l m : Lit) → Contains lits l → Contains lits m → variable l ≡ variable m → l ≡ m
one_of_a_variable lits different l m (i, below_i, at_i) (j, below_j, at_j) e =
    let m_at : get_or lits j l ≡ m = get_or_default lits j l m below_j ∙ at_j in
    elim (cases_lt i j) [
      | inl before ↦ absurd (different i j l before below_j (ap variable at_i ∙ e ∙ sym (ap variable m_at)))
      | inr past ↦ elim (cases_lt j i) [
        | inl before ↦ absurd (different j i l before below_i (ap variable m_at ∙ sym e ∙ sym (ap variable at_i)))
        | inr other ↦ let is : i ≡ j = omega (arith, past, other) in sym at_i ∙ ap (λ k. get_or lits k l) is ∙ m_at
      ]
    ]

literal_apart : (v : ℕ) → literal v true ≡ literal v false → ⊥
literal_apart v e = let codes : 2 * v ≡ 2 * v + 1 = ap (λ (l : Lit). l.code) e in absurd (omega (arith, codes))

digit_true : (lits : List Lit) (v : ℕ) → is_among lits (literal v true) ≡ true → digit lits v ≡ 1
digit_true lits v e = ap (λ b. if b then 1 else (if is_among lits (literal v false) then 2 else 0)) e

digit_false : (lits : List Lit) (v : ℕ) → is_among lits (literal v true) ≡ false → is_among lits (literal v false) ≡ true → digit lits v ≡ 2
digit_false lits v e f = ap (λ b. if b then 1 else (if is_among lits (literal v false) then 2 else 0)) e ∙ ap (λ b. if b then 2 else 0) f

digit_none : (lits : List Lit) (v : ℕ) → is_among lits (literal v true) ≡ false → is_among lits (literal v false) ≡ false → digit lits v ≡ 0
digit_none lits v e f = ap (λ b. if b then 1 else (if is_among lits (literal v false) then 2 else 0)) e ∙ ap (λ b. if b then 2 else 0) f

from_one : (lits : List Lit) (v : ℕ) → digit lits v ≡ 1 → is_among lits (literal v true) ≡ true
from_one lits v e = elim (cases_Bool (is_among lits (literal v true))) [
  | inl is_true ↦ is_true
  | inr is_false ↦ elim (cases_Bool (is_among lits (literal v false))) [
    | inl other ↦ absurd (omega (arith, e, digit_false lits v is_false other))
    | inr neither ↦ absurd (omega (arith, e, digit_none lits v is_false neither))
  ]
]

from_two : (lits : List Lit) (v : ℕ) → digit lits v ≡ 2 → is_among lits (literal v false) ≡ true
from_two lits v e = elim (cases_Bool (is_among lits (literal v false))) [
  | inl is_true ↦ is_true
  | inr is_false ↦ elim (cases_Bool (is_among lits (literal v true))) [
    | inl other ↦ absurd (omega (arith, e, digit_true lits v other))
    | inr neither ↦ absurd (omega (arith, e, digit_none lits v neither is_false))
  ]
]

-- clauses of one number have the same literals
pub same_literals : (c d : List Lit) (n : ℕ) → HasDifferentVariables c → code c n ≡ code d n → (l : Lit) → 1 ≤ variable l → variable l ≤ n → Contains c l → Contains d l
same_literals c d n different e l least most held =
    let v : ℕ = variable l in
    let digits : digit c v ≡ digit d v = same_digits c d n e v least most in
    elim (is_literal l) [
      | inl is ↦
          let here : is_among c (literal v true) ≡ true = subst (λ m. is_among c m ≡ true) is (among_contains c l held) in
          let there : is_among d (literal v true) ≡ true = from_one d v (sym digits ∙ digit_true c v here) in
          subst (Contains d) (sym is) (contains_among d (literal v true) there)
      | inr is ↦
          let here : is_among c (literal v false) ≡ true = subst (λ m. is_among c m ≡ true) is (among_contains c l held) in
          let none : is_among c (literal v true) ≡ false = elim (cases_Bool (is_among c (literal v true))) [
            | inl is_true ↦ absurd
                (literal_apart v (one_of_a_variable c different (literal v true) (literal v false) (contains_among c (literal v true) is_true) (contains_among c (literal v false) here)
                (variable_literal v true ∙ sym (variable_literal v false))))
            | inr is_false ↦ is_false
          ] in
          let there : is_among d (literal v false) ≡ true = from_two d v (sym digits ∙ digit_false c v none here) in
          subst (Contains d) (sym is) (contains_among d (literal v false) there)
    ]

-- a digit that is not 0 makes the number so
code_above : (lits : List Lit) (n v : ℕ) → 1 ≤ v → v ≤ n → 1 ≤ digit lits v → 1 ≤ code lits n
code_above lits zero v least most some = absurd (omega (arith, least, most))
code_above lits (suc n) v least most some = elim (cases_lt v (suc n)) [
  | inl before ↦ omega (arith, code_above lits n v least (omega (arith, before)) some)
  | inr past ↦ let is : v ≡ suc n = omega (arith, most, past) in let last : 1 ≤ digit lits (suc n) = subst (λ w. 1 ≤ digit lits w) is some in omega (arith, last)
]

some_digit : (lits : List Lit) (l : Lit) → Contains lits l → 1 ≤ digit lits (variable l)
some_digit lits l held = elim (is_literal l) [
  | inl is ↦ omega (arith, digit_true lits (variable l) (subst (λ m. is_among lits m ≡ true) is (among_contains lits l held)))
  | inr is ↦
      let here : is_among lits (literal (variable l) false) ≡ true = subst (λ m. is_among lits m ≡ true) is (among_contains lits l held) in
      elim (cases_Bool (is_among lits (literal (variable l) true))) [
        | inl is_true ↦ omega (arith, digit_true lits (variable l) is_true)
        | inr is_false ↦ omega (arith, digit_false lits (variable l) is_false here)
      ]
]

-- only the number of the empty clause is 0
pub code_positive : (lits : List Lit) (l : Lit) (n : ℕ) → Contains lits l → 1 ≤ variable l → variable l ≤ n → 1 ≤ code lits n
code_positive lits l n held least most = code_above lits n (variable l) least most (some_digit lits l held)
