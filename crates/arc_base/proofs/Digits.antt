-- A word that does not go on as a number within the limit is none.
use Rattle.std.proofs.Common.{◌≡◌, ℕ, ◌+◌, ◌<◌, ◌≤◌, Bool, true, false, ◌&&◌, List, [], ◌∷◌, length, drop, get_or, refl, ap, sym, ◌∙◌, arith, Some, None, if◌then◌else◌, nat_le, le_trans, ⊎_elim}
use Rattle.std.proofs.lemmas.Option.{none-some}
use Rattle.std.specs.Char.{is_ascii_digit}
use Rattle.std.specs.Str.{all_ascii_digits}
use Rattle.std.proofs.lemmas.Bool.{and_cases, and_left, and_right, cond-false, leb-false, lt-leb}
use Rattle.std.proofs.lemmas.List.{drop_more}
use Rattle.arc_base.specs.Words.{is_filled}
use Rattle.arc_base.specs.WordNumbers.{natural, value_after, with_digit, is_natural}

-- more digits make no smaller number
pub value_after-ge : (n : ℕ) (digits : List ℕ) → n ≤ value_after n digits
value_after-ge n [] = omega arith
value_after-ge n (d ∷ digits) = le_trans (omega arith) (value_after-ge (with_digit n d) digits)

none_is_natural : (limit : ℕ) (word : List ℕ) → is_natural limit word ≡ false → None ≡ natural limit word
none_is_natural limit word e = sym (cond-false (is_natural limit word) (Some (value_after 0 word)) None e)

-- a byte that is no digit
pub no_digit : (limit : ℕ) (word : List ℕ) (i b : ℕ) → i < length word → b ≡ get_or word i 0 → all_ascii_digits (drop i word) ≡ all_ascii_digits word →
    is_ascii_digit b ≡ false → None ≡ natural limit word
no_digit limit word i b within b_is digits off_here =
    let here : all_ascii_digits (drop i word) ≡ (is_ascii_digit (get_or word i 0) && all_ascii_digits (drop (i + 1) word)) = ap all_ascii_digits (drop_more word i 0 within) in
    let off : is_ascii_digit (get_or word i 0) ≡ false = rw b_is at off_here in
    let bad : all_ascii_digits word ≡ false = sym digits ∙ here ∙ and_left _ _ off in
    none_is_natural limit word (and_right (is_filled word) _ (and_left _ (nat_le (value_after 0 word) limit) bad))

-- a digit with which the number passes the limit
pub too_large : (limit value : ℕ) (word : List ℕ) (i b : ℕ) → i < length word → b ≡ get_or word i 0 → value_after value (drop i word) ≡ value_after 0 word →
    nat_le (with_digit value b) limit ≡ false → None ≡ natural limit word
too_large limit value word i b within b_is same large =
    let here : value_after value (drop i word) ≡ value_after (with_digit value (get_or word i 0)) (drop (i + 1) word) = ap (value_after value) (drop_more word i 0 within) in
    let grown : with_digit value b ≤ value_after 0 word = rw (b_is, ← same, here) (value_after-ge (with_digit value (get_or word i 0)) (drop (i + 1) word)) in
    let above : limit < value_after 0 word = omega (arith, leb-false (with_digit value b) limit large) in
    none_is_natural limit word (and_right (is_filled word) _ (and_right (all_ascii_digits word) _ (lt-leb (value_after 0 word) limit above)))

none_is_off : (test : Bool) (n : ℕ) → None ≡ (if test then Some n else None) → test ≡ false
none_is_off true n e = absurd (none-some n e)
none_is_off false n e = refl

-- where the next digit is refused, the word is no number within the limit
pub refused : (limit value : ℕ) (word : List ℕ) (i b : ℕ) → i < length word → b ≡ get_or word i 0 → all_ascii_digits (drop i word) ≡ all_ascii_digits word →
    value_after value (drop i word) ≡ value_after 0 word → None ≡ (if is_ascii_digit b && nat_le (with_digit value b) limit then Some (with_digit value b) else None) → None ≡ natural limit word
refused limit value word i b within b_is digits same e =
    ⊎_elim (λ off. no_digit limit word i b within b_is digits off) (λ large. too_large limit value word i b within b_is same large) (and_cases
    (is_ascii_digit b) (nat_le (with_digit value b) limit) (none_is_off _ _ e))
