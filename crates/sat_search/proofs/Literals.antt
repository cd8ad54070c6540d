-- Literals, their negations and their variables.
use Rattle.std.proofs.Common.{◌≡◌, ℕ, ◌+◌, ◌-◌, ◌%◌, Bool, cond, IsTrue, ⊎_elim, ◌⊎◌, inl, inr, ap, sym, ◌∙◌, arith}
use Rattle.std.proofs.lemmas.Bool.{eq-eqb, ne_eqb, eqb-true, cases_eq}
use Rattle.cnf_types.specs.declared.literal.Lit.{Lit}
use Rattle.cnf_types.specs.Literals.{negated, variable}
use Rattle.proof_check.specs.Propagation.{same}

abbrev of_code : ℕ → Lit
of_code n = record { code = n }

-- literals of one code are one literal
pub same_code : (l m : Lit) → l.code ≡ m.code → l ≡ m
same_code l m e = ap of_code e

pub same-eq : (l m : Lit) → IsTrue (same l m) → l ≡ m
same-eq l m e = same_code l m (eqb-true l.code m.code e)

pub eq-same : (l m : Lit) → l ≡ m → IsTrue (same l m)
eq-same l m e = eq-eqb l.code m.code (ap (λ (x : Lit). x.code) e)

-- the code of the negation
pub negated_codes : (l : Lit) → ((l.code % 2 ≡ 0) × ((negated l).code ≡ l.code + 1)) ⊎ ((l.code % 2 ≡ 1) × ((negated l).code + 1 ≡ l.code))
negated_codes l = ⊎_elim
    (λ (e : l.code % 2 ≡ 0). inl (e, ap (λ (b : Bool). cond b (l.code + 1) (l.code - 1)) (eq-eqb (l.code % 2) 0 e)))
    (λ (h : l.code % 2 ≡ 0 → ⊥). let is : (negated l).code ≡ l.code - 1 = ap (λ (b : Bool). cond b (l.code + 1) (l.code - 1)) (ne_eqb (l.code % 2) 0 h) in inr (omega arith, omega (arith, is)))
    (cases_eq (l.code % 2) 0)

pub negated-negated : (l : Lit) → negated (negated l) ≡ l
negated-negated l = same_code (negated (negated l)) l (elim (negated_codes l) [
  | inl a ↦ elim (negated_codes (negated l)) [ inl b ↦ omega arith | inr b ↦ omega arith ]
  | inr a ↦ elim (negated_codes (negated l)) [ inl b ↦ omega arith | inr b ↦ omega arith ]
])

pub negated_apart : (l : Lit) → negated l ≡ l → ⊥
negated_apart l e =
    let same_code_of : (negated l).code ≡ l.code = ap (λ (x : Lit). x.code) e in
    elim (negated_codes l) [ inl a ↦ omega arith | inr a ↦ omega arith ]

-- literals with one negation are one literal
pub same_negated : (l m : Lit) → negated l ≡ negated m → l ≡ m
same_negated l m e = sym (negated-negated l) ∙ ap negated e ∙ negated-negated m

pub variable-negated : (l : Lit) → variable (negated l) ≡ variable l
variable-negated l = elim (negated_codes l) [ inl a ↦ omega arith | inr a ↦ omega arith ]

-- literals of one variable are one literal or each other's negations
pub one_variable : (l m : Lit) → variable l ≡ variable m → (l ≡ m) ⊎ (l ≡ negated m)
one_variable l m e = elim (cases_eq l.code m.code) [
  | inl is ↦ inl (same_code l m is)
  | inr apart ↦ inr (same_code l (negated m) (elim (negated_codes m) [ inl a ↦ omega arith | inr a ↦ omega arith ]))
]
