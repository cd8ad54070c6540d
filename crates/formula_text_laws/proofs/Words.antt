-- Words, literals and lines of a formula's text, and what they are read as.
use Rattle.std.proofs.Common.{◌≡◌, ℕ, suc, zero, ◌+◌, ◌-◌, ◌*◌, ◌/◌, ◌%◌, ◌<◌, ◌≤◌, ◌^◌, ℤ, pos, negsuc, Bool, true, false, cond, ◌||◌}
use Rattle.std.proofs.Common.{List, [], ◌∷◌, ◌++◌, length, take, get_or, map, filter, refl, ap, ap₂, ◌∙◌, arith, All, Some, None, decimal, option_map, option_and_then, is_none, ⊎_elim}
use Rattle.std.specs.List.{list_any, cons_option}
use Rattle.std.proofs.lemmas.Bool.{cond-false, ne_eqb, eq-eqb, le-leb, cases_eq}
use Rattle.std.proofs.lemmas.Fmt.{decimal_is_IsNumeral}
use Rattle.std.proofs.lemmas.List.Elements.{All-cons, All-nil, All-get_or, All-from_get_or, All-head, All-tail}
use Rattle.std.proofs.lemmas.List.Splits.{slice_split_none}
use Rattle.std.proofs.lemmas.Str.Parse.{digit_at}
use Rattle.cnf_types.specs.declared.literal.Lit.{Lit}
use Rattle.cnf_types.specs.Dimacs.{is_bad_word, is_zero, line_numbers, literal_of}
use Rattle.cnf_types.specs.Literals.{literal, is_positive, variable}
use Rattle.arc_base.specs.WordNumbers.{minus, number}
use Rattle.arc_base.specs.TextLines.{without_return}
use Rattle.arc_base.specs.Words.{is_blank, is_filled, words}
use Rattle.proof_log.specs.Texts.{literal_text}
use Rattle.proof_log.proofs.Printed.{AreWords, IsInLine, IsPlain, IsWord, decimal_plain, minus_plain, natural_decimal, plain_word, no_blanks, front_word, number_plain}
use Rattle.formula_text_laws.specs.Texts.{IsOfVariables}

-- a line in which no byte ends a line has no carriage return at its end
pub no-return : (line : List ℕ) → 0 < length line → IsInLine line → without_return line ≡ line
no-return line some h =
    let high = All-get_or (λ b. 31 < b) line (length line - 1) 0 (omega arith) h in
    cond-false _ (take (length line - 1) line) line (ne_eqb (get_or line (length line - 1) 0) 13 (λ e. omega (arith, high)))

-- a word alone
pub last-word : (w : List ℕ) → IsWord w → words w ≡ w ∷ []
last-word w h = ap (filter is_filled) (slice_split_none is_blank w (no_blanks w h.1)) ∙ front_word w [] h.0

-- the number that a literal is written as
abbrev signed : Bool → ℕ → ℤ
signed true v = pos v
signed false zero = pos 0
signed false (suc n) = negsuc n

abbrev pub number_of : Lit → ℤ
number_of l = signed (is_positive l) (variable l)

digit-bytes : (n : ℕ) → n < 2 ^ 64 → All (λ b. (48 ≤ b) × (b ≤ 57)) (decimal n)
digit-bytes n fits =
    let numeral = (decimal_is_IsNumeral n fits).0 in
    All-from_get_or (λ b. (48 ≤ b) × (b ≤ 57)) (decimal n) 0 (λ i within. let at = digit_at (decimal n) i numeral.1 within in (omega (arith, at), omega (arith, at)))

pub literal-number : (limit : ℕ) (b : Bool) (v : ℕ) → 1 ≤ v → v ≤ limit → limit < 2 ^ 63 → number limit (cond b (decimal v) (45 ∷ decimal v)) ≡ Some (signed b v)
literal-number limit true v some fits small = number_plain limit v (decimal v) (digit-bytes v (omega arith)) (natural_decimal limit v (omega arith) fits)
literal-number limit false zero some fits small = absurd (omega arith)
literal-number limit false (suc n) some fits small = ap (option_and_then minus) (natural_decimal limit (suc n) (omega arith) fits)

zero-number : (limit : ℕ) → number limit (48 ∷ []) ≡ Some (pos 0)
zero-number limit = ap (λ b. option_map pos (cond b (Some 0) None)) (le-leb 0 limit (omega arith))

pub literal-word : (b : Bool) (v : ℕ) → v < 2 ^ 64 → IsPlain (cond b (decimal v) (45 ∷ decimal v))
literal-word true v fits = decimal_plain v fits
literal-word false v fits = minus_plain v fits

signed-literal : (b : Bool) (v : ℕ) → 1 ≤ v → literal_of (signed b v) ≡ literal v b
signed-literal true v some = refl
signed-literal false zero some = absurd (omega arith)
signed-literal false (suc n) some = refl

signed-nonzero : (b : Bool) (v : ℕ) → 1 ≤ v → is_zero (signed b v) ≡ false
signed-nonzero true v some = ne_eqb v 0 (λ e. omega arith)
signed-nonzero false zero some = absurd (omega arith)
signed-nonzero false (suc n) some = refl

abbrev of_code : ℕ → Lit
of_code n = record { code = n }

literal-back : (l : Lit) → literal (variable l) (is_positive l) ≡ l
literal-back l = ⊎_elim
    (λ (e : l.code % 2 ≡ 0). ap (λ b. of_code (cond b (2 * (l.code / 2)) (2 * (l.code / 2) + 1))) (eq-eqb (l.code % 2) 0 e) ∙ ap of_code (let same : 2 * (l.code / 2) ≡ l.code = omega arith in same))
    (λ (h : l.code % 2 ≡ 0 → ⊥). ap (λ b. of_code (cond b (2 * (l.code / 2)) (2 * (l.code / 2) + 1))) (ne_eqb (l.code % 2) 0 h)
    ∙ ap of_code (let same : 2 * (l.code / 2) + 1 ≡ l.code = omega arith in same))
    (cases_eq (l.code % 2) 0)

-- the literals of a clause, written as words and read as numbers
module _ (vars : ℕ) (small : vars < 2 ^ 63) where
  pub literals-words : (lits : List Lit) → All (IsOfVariables vars) lits → AreWords (map literal_text lits)
  literals-words [] h = tt
  literals-words (l ∷ lits) h =
      let here = All-head (IsOfVariables vars) l lits h in
      (plain_word (literal_text l) (literal-word (is_positive l) (variable l) (omega (arith, here.1))), literals-words lits (All-tail (IsOfVariables vars) l lits h))

  pub literals-good : (lits : List Lit) → All (IsOfVariables vars) lits → list_any (is_bad_word vars) (map literal_text lits ++ (48 ∷ []) ∷ []) ≡ false
  literals-good [] h = ap (λ o. is_none o || false) (zero-number vars)
  literals-good (l ∷ lits) h =
      let here = All-head (IsOfVariables vars) l lits h in
      ap₂ (λ x y. x || y) (ap is_none (literal-number vars (is_positive l) (variable l) here.0 here.1 small)) (literals-good lits (All-tail (IsOfVariables vars) l lits h))

  pub literals-numbers : (lits : List Lit) → All (IsOfVariables vars) lits → line_numbers vars (map literal_text lits ++ (48 ∷ []) ∷ []) ≡ map number_of lits ++ pos 0 ∷ []
  literals-numbers [] h = ap (λ o. cons_option o []) (zero-number vars)
  literals-numbers (l ∷ lits) h =
      let here = All-head (IsOfVariables vars) l lits h in
      ap₂ cons_option (literal-number vars (is_positive l) (variable l) here.0 here.1 small) (literals-numbers lits (All-tail (IsOfVariables vars) l lits h))

  pub literals-nonzero : (lits : List Lit) → All (IsOfVariables vars) lits → All (λ z. is_zero z ≡ false) (map number_of lits)
  literals-nonzero [] h = All-nil (λ z. is_zero z ≡ false)
  literals-nonzero (l ∷ lits) h =
      let here = All-head (IsOfVariables vars) l lits h in
      All-cons (λ z. is_zero z ≡ false) (number_of l) (map number_of lits) (signed-nonzero (is_positive l) (variable l) here.0) (literals-nonzero lits (All-tail (IsOfVariables vars) l lits h))

  pub literals-back : (lits : List Lit) → All (IsOfVariables vars) lits → map literal_of (map number_of lits) ≡ lits
  literals-back [] h = refl
  literals-back (l ∷ lits) h =
      let here = All-head (IsOfVariables vars) l lits h in
      ap₂ (λ m ms. m ∷ ms) (signed-literal (is_positive l) (variable l) here.0 ∙ literal-back l) (literals-back lits (All-tail (IsOfVariables vars) l lits h))
