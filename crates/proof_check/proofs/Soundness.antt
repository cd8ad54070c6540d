-- What the hints of an accepted clause show: it is true wherever the live clauses are.
use Rattle.std.proofs.Common.{◌≡◌, ℕ, ◌+◌, ◌-◌, ◌/◌, ◌%◌, ℤ, pos, negsuc, Bool, true, false, not, cond, ◌||◌, List, [], ◌∷◌, refl, ap, sym, ◌∙◌, arith, Option, Some, None, ⊎_elim}
use Rattle.std.specs.List.{list_all}
use Rattle.std.proofs.lemmas.Bool.{cases_eq, false≢true, or_parts, or_cases, and_parts, eqb-true, eq-eqb, ne_eqb, true_from_ne_false}
use Rattle.std.proofs.lemmas.Option.{none-some}
use Rattle.cnf_types.specs.declared.literal.Lit.{Lit}
use Rattle.cnf_types.specs.Literals.{negated}
use Rattle.cnf_types.specs.Formulas.{value, clause_value}
use Rattle.proof_check.specs.declared.faults.StepFault.{StepFault}
use Rattle.proof_check.specs.declared.faults.StepFault.TheVariants.{NegativeHint, UnknownId, HintNotUnit, NoConflict}
use Rattle.proof_check.specs.declared.left.Left.TheVariants.{One, More}
use Rattle.proof_check.specs.Propagation.{same, is_among, with_literal, left, left_of, left_fault, hint_fault, chain_fault}

-- the literal of a code
abbrev of_code : ℕ → Lit
of_code n = record { code = n }

-- literals of one code are one literal
same_literal : (l m : Lit) → same l m ≡ true → l ≡ m
same_literal l m e = ap of_code (eqb-true l.code m.code e)

not_not : (b : Bool) → not (not b) ≡ b
not_not true = refl
not_not false = refl

value_even : (a : ℕ → Bool) (n : ℕ) → n % 2 ≡ 0 → value a (of_code n) ≡ a (n / 2)
value_even a n e = ap (λ b. cond b (a (n / 2)) (not (a (n / 2)))) (eq-eqb (n % 2) 0 e)

value_odd : (a : ℕ → Bool) (n : ℕ) → (n % 2 ≡ 0 → ⊥) → value a (of_code n) ≡ not (a (n / 2))
value_odd a n h = ap (λ b. cond b (a (n / 2)) (not (a (n / 2)))) (ne_eqb (n % 2) 0 h)

negated_even : (l : Lit) → l.code % 2 ≡ 0 → negated l ≡ of_code (l.code + 1)
negated_even l e = ap (λ b. of_code (cond b (l.code + 1) (l.code - 1))) (eq-eqb (l.code % 2) 0 e)

negated_odd : (l : Lit) → (l.code % 2 ≡ 0 → ⊥) → negated l ≡ of_code (l.code - 1)
negated_odd l h = ap (λ b. of_code (cond b (l.code + 1) (l.code - 1))) (ne_eqb (l.code % 2) 0 h)

-- the negation is true where the literal is false
pub value-negated : (a : ℕ → Bool) (l : Lit) → value a (negated l) ≡ not (value a l)
value-negated a l = ⊎_elim
    (λ (e : l.code % 2 ≡ 0). ap (value a) (negated_even l e) ∙ value_odd a (l.code + 1) (λ h. omega arith)
    ∙ ap (λ n. not (a n)) (let half : (l.code + 1) / 2 ≡ l.code / 2 = omega arith in half) ∙ sym (ap not (value_even a l.code e)))
    (λ (h : l.code % 2 ≡ 0 → ⊥). ap (value a) (negated_odd l h) ∙ value_even a (l.code - 1) (omega arith) ∙ ap a (let half : (l.code - 1) / 2 ≡ l.code / 2 = omega arith in half)
    ∙ sym (not_not (a (l.code / 2))) ∙ sym (ap not (value_odd a l.code h)))
    (cases_eq (l.code % 2) 0)

-- the assignment makes the literals of a set false, and the live clauses true
abbrev pub AllFalse : (ℕ → Bool) → (Lit → Bool) → Type 0
AllFalse a falses = (m : Lit) → falses m ≡ true → value a m ≡ false

abbrev pub LiveTrue : (ℕ → Bool) → (ℕ → Option (List Lit)) → Type 0
LiveTrue a clause = (id : ℕ) (lits : List Lit) → clause id ≡ Some lits → clause_value a lits ≡ true

module _ (a : ℕ → Bool) where
  -- false literals make no difference to a clause
  left_step : (falses : Lit → Bool) (l : Lit) (ls : List Lit) (b : Bool) → AllFalse a falses → falses l ≡ b →
      clause_value a (left falses ls) ≡ clause_value a ls → clause_value a (cond (not b) (l ∷ left falses ls) (left falses ls)) ≡ clause_value a (l ∷ ls)
  left_step falses l ls true all e rest = rest ∙ sym (ap (λ v. v || clause_value a ls) (all l e))
  left_step falses l ls false all e rest = ap (λ v. value a l || v) rest

  left_value : (falses : Lit → Bool) (lits : List Lit) → AllFalse a falses → clause_value a (left falses lits) ≡ clause_value a lits
  left_value falses [] all = refl
  left_value falses (l ∷ ls) all = left_step falses l ls (falses l) all refl (left_value falses ls all)

  -- a true clause of one literal has that literal true
  others_true : (l : Lit) (ls : List Lit) → list_all (same l) ls ≡ true → clause_value a ls ≡ true → value a l ≡ true
  others_true l [] alike e = absurd (false≢true e)
  others_true l (m ∷ ms) alike e =
      let parts = and_parts (same l m) (list_all (same l) ms) alike in
      ⊎_elim (λ (h : value a m ≡ true). ap (value a) (same_literal l m parts.0) ∙ h) (λ (h : clause_value a ms ≡ true). others_true l ms parts.1 h) (or_cases (value a m) (clause_value a ms) e)

  one_true : (l : Lit) (ls : List Lit) → list_all (same l) ls ≡ true → clause_value a (l ∷ ls) ≡ true → value a l ≡ true
  one_true l ls alike e = ⊎_elim (λ (h : value a l ≡ true). h) (λ (h : clause_value a ls ≡ true). others_true l ls alike h) (or_cases (value a l) (clause_value a ls) e)

  -- then its negation joins the false ones
  negation_false : (falses : Lit → Bool) (l : Lit) → AllFalse a falses → value a l ≡ true → AllFalse a (with_literal (negated l) falses)
  negation_false falses l all e m h = ⊎_elim
      (λ (here : same (negated l) m ≡ true). sym (ap (value a) (same_literal (negated l) m here)) ∙ value-negated a l ∙ ap not e)
      (λ (there : falses m ≡ true). all m there)
      (or_cases (same (negated l) m) (falses m) h)

  by_unit : (l : Lit) (ls : List Lit) (place : ℕ) (next : Lit → Option StepFault) (b : Bool) → list_all (same l) ls ≡ b → clause_value a (l ∷ ls) ≡ true →
      ((m : Lit) → value a m ≡ true → next m ≡ None → ⊥) → left_fault (cond b (One l) More) place next ≡ None → ⊥
  by_unit l ls place next true alike e rest none = rest l (one_true l ls alike e) none
  by_unit l ls place next false alike e rest none = absurd (none-some (HintNotUnit place) (sym none))

  by_left : (ls : List Lit) (place : ℕ) (next : Lit → Option StepFault) → clause_value a ls ≡ true → ((m : Lit) → value a m ≡ true → next m ≡ None → ⊥) → left_fault (left_of ls) place next ≡ None → ⊥
  by_left [] place next e rest none = absurd (false≢true e)
  by_left (l ∷ ls) place next e rest none = by_unit l ls place next (list_all (same l) ls) refl e rest none

  by_clause : (o : Option (List Lit)) (falses : Lit → Bool) (place : ℕ) (next : Lit → Option StepFault) →
      ((lits : List Lit) → o ≡ Some lits → clause_value a lits ≡ true) → AllFalse a falses → ((m : Lit) → value a m ≡ true → next m ≡ None → ⊥) → hint_fault o falses place next ≡ None → ⊥
  by_clause None falses place next live all rest none = absurd (none-some (UnknownId place) (sym none))
  by_clause (Some lits) falses place next live all rest none =
      by_left (left falses lits) place next (left_value falses lits all ∙ live lits refl) rest none

  -- a chain without a fault contradicts that the literals are false
  chain_sound : (clause : ℕ → Option (List Lit)) → LiveTrue a clause → (hints : List ℤ) (falses : Lit → Bool) (place : ℕ) → AllFalse a falses → chain_fault clause falses place hints ≡ None → ⊥
  chain_sound clause live [] falses place all none = absurd (none-some NoConflict (sym none))
  chain_sound clause live (negsuc n ∷ hints) falses place all none = absurd (none-some (NegativeHint place) (sym none))
  chain_sound clause live (pos id ∷ hints) falses place all none =
      by_clause (clause id) falses place (λ l. chain_fault clause (with_literal (negated l) falses) (place + 1) hints) (live id) all (λ m e next. chain_sound
      clause live hints (with_literal (negated m) falses) (place + 1) (negation_false falses m all e) next) none

  -- a literal of a false clause is false
  none_true : (lits : List Lit) → clause_value a lits ≡ false → AllFalse a (is_among lits)
  none_true [] e m h = absurd (false≢true h)
  none_true (l ∷ ls) e m h =
      let parts = or_parts (value a l) (clause_value a ls) e in
      ⊎_elim
      (λ (here : same l m ≡ true). sym (ap (value a) (same_literal l m here)) ∙ parts.0)
      (λ (there : is_among ls m ≡ true). none_true ls parts.1 m there)
      (or_cases (same l m) (is_among ls m) h)

  -- so the clause is true
  pub clause_sound : (clause : ℕ → Option (List Lit)) (lits : List Lit) (hints : List ℤ) → LiveTrue a clause → chain_fault clause (is_among lits) 0 hints ≡ None → clause_value a lits ≡ true
  clause_sound clause lits hints live none =
      true_from_ne_false (clause_value a lits) (λ e. chain_sound clause live hints (is_among lits) 0 (none_true lits e) none)
