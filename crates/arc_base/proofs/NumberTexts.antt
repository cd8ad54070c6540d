-- Which number a text writes.
use Rattle.std.proofs.Common.{◌≡◌, ◌≢◌, ℕ, ◌^◌, ◌<◌, List, length, get_or, Some, None, Result, Ok, Err, decimal, inl, inr, refl, sym, ap, subst, ◌∙◌, arith, lt-ltb}
use Rattle.std.proofs.lemmas.Bool.{and_parts, cases_lt, ltb-true}
use Rattle.std.proofs.lemmas.Slice.Eq.{bytes_eq-Decides}
use Rattle.std.proofs.lemmas.Fmt.{decimal_is_IsNumeral, decimal-digits_value, decimal_digit, first_decimal, IsAscii-decimal}
use Rattle.std.proofs.lemmas.Str.{IsUtf8-from_ascii}
use Rattle.std.proofs.lemmas.Str.Parse.{numerals_by_value, tells_digits, digit_at, parse_plain}
use Rattle.std.proofs.NetLemmas.Options.{cond_some}
use Rattle.std.specs.Result.{result_ok}
use Rattle.std.specs.Str.{IsUtf8}
use Rattle.std.specs.Str.Parse.{IsNumeral, digits_value, ParsesUnsigned}
use Rattle.arc_base.specs.PrefixText.{number_of, BeginsAsNumber}

-- a number that a text writes is below 2 ^ 64, and the text is its decimal digits
pub number_of-some : (text : List ℕ) (n : ℕ) → number_of text ≡ Some n → (n < 2 ^ 64) × (text ≡ decimal n)
number_of-some text n e =
    let (test, value) = cond_some _ _ _ e in
    let (small, same) = and_parts _ _ test in
    let P : ℕ → Type 0 = λ m. (m < 2 ^ 64) × (text ≡ decimal m) in
    subst P value (ltb-true _ _ small, sym ((bytes_eq-Decides _ _).0 same))

-- digits with no zero before another write their value
pub number_of-digits : (text : List ℕ) → IsNumeral 10 text → digits_value 10 text < 2 ^ 64 → BeginsAsNumber text → number_of text ≡ Some (digits_value 10 text)
number_of-digits text numeral small begins =
    let alone : get_or text 0 0 ≡ 48 → length text ≡ 1 =
    λ zero_first. elim begins [ inl e ↦ ap length e | inr range ↦ absurd (omega (arith, range.0)) ] in
    let spelled = decimal-digits_value (numerals_by_value _ tells_digits) text numeral.1 numeral.0 alone small in
    rw (lt-ltb _ _ small, (bytes_eq-Decides _ _).1 spelled)

-- a text that is no number's digits writes none
pub number_of-none : (text : List ℕ) → ((n : ℕ) → n < 2 ^ 64 → text ≡ decimal n → ⊥) → number_of text ≡ None
number_of-none text never = go (number_of text) refl
  where
    go : (r : _) → number_of text ≡ r → number_of text ≡ None
    go None e = e
    go (Some n) e = let (small, same) = number_of-some text n e in absurd (never n small same)

-- the digits of a number begin as one
pub decimal-begins : (n : ℕ) → n < 2 ^ 64 → BeginsAsNumber (decimal n)
decimal-begins n small =
    elim (cases_lt 0 n) [
      | inl more ↦
          let (some, digits) = (decimal_is_IsNumeral n small).0 in
          inr (omega (arith, first_decimal n more small), (digit_at _ 0 digits some).1)
      | inr none ↦ let e : n ≡ 0 = omega arith in inl (rw e (decimal_digit 0 (omega arith)))
    ]

-- the digits of a number write it
pub number_of-decimal : (n : ℕ) → n < 2 ^ 64 → number_of (decimal n) ≡ Some n
number_of-decimal n small =
    let (numeral, value) = decimal_is_IsNumeral n small in
    number_of-digits _ numeral (omega (arith, value)) (decimal-begins n small) ∙ ap Some value

-- a text that does not begin as a number writes none
pub number_of-begins : (text : List ℕ) → (BeginsAsNumber text → ⊥) → number_of text ≡ None
number_of-begins text other = number_of-none text (λ n small e. other (subst BeginsAsNumber (sym e) (decimal-begins n small)))

-- nor does one that is not UTF-8
pub number_of-utf8 : (text : List ℕ) → (IsUtf8 text → ⊥) → number_of text ≡ None
number_of-utf8 text other =
    number_of-none text (λ n small e. other (subst IsUtf8 (sym e) (IsUtf8-from_ascii _ (IsAscii-decimal n small))))

begins-no_plus : (text : List ℕ) → BeginsAsNumber text → get_or text 0 0 ≢ 43
begins-no_plus text begins plus =
    elim begins [
      | inl e ↦ let first : get_or text 0 0 ≡ 48 = ap (λ t. get_or t 0 0) e in absurd (omega arith)
      | inr range ↦ absurd (omega (arith, range.0))
    ]

-- what `parse` makes of a text that begins as a number
pub parsed-number_of : {E : Type 0} (text : List ℕ) (r : Result ℕ E) → BeginsAsNumber text → ParsesUnsigned 64 10 text r → result_ok r ≡ number_of text
parsed-number_of {E = E} text (Ok n) begins parsed =
    let ((digits, some, small), value) = parse_plain (numerals_by_value _ tells_digits) {E = E} 64 text (Ok n) parsed (begins-no_plus text begins) in
    ap Some value ∙ sym (number_of-digits text (some, digits) small begins)
parsed-number_of {E = E} text (Err e) begins parsed =
    let never = parse_plain (numerals_by_value _ tells_digits) {E = E} 64 text (Err e) parsed (begins-no_plus text begins) in
    sym (number_of-none text (λ n small same.
    let (numeral, value) = decimal_is_IsNumeral n small in
    let P : List ℕ → Type 0 = λ t. IsNumeral 10 t × (digits_value 10 t ≡ n) in
    let (own_numeral, own_value) = subst P (sym same) (numeral, value) in
    never (own_numeral.1, own_numeral.0, omega (arith, own_value))))
