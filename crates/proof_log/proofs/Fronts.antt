-- The first word of a line, and the number that it writes.
use Rattle.std.proofs.Common.{◌≡◌, filter, ℕ, ◌+◌, ◌-◌, ◌<◌, ◌≤◌, ◌^◌, ℤ, pos, Bool, true, false, List, [], ◌∷◌, ◌++◌, length, take}
use Rattle.std.proofs.Common.{drop, get_or, refl, ap, sym, subst, ◌∙◌, arith, All, Some, None, cond, option_and_then, nat_le, append-nil, take-append-drop, length-drop, length-take-le, ⊎_elim}
use Rattle.std.specs.Str.{all_ascii_digits}
use Rattle.std.specs.Char.{is_ascii_digit}
use Rattle.std.proofs.lemmas.Bool.{and_from, and_parts, cond-true, le-leb}
use Rattle.std.proofs.lemmas.Bool.Decides.{nat_tests}
use Rattle.std.proofs.lemmas.List.{take_more}
use Rattle.std.proofs.lemmas.List.Splits.{slice_split_none}
use Rattle.std.proofs.lemmas.List.Elements.{All-cons, All-nil, All-weaker}
use Rattle.arc_base.specs.Words.{words, is_filled, is_blank}
use Rattle.arc_base.specs.WordNumbers.{natural, is_natural, minus, value_after, with_digit}
use Rattle.proof_log.specs.Fronts.{EndsWord, IsFirstNumber}
use Rattle.proof_log.proofs.Printed.{IsWord, filled_by, first_word, front_word, no_blanks, number_plain}

-- one digit more
value_snoc : (n : ℕ) (ds : List ℕ) (d : ℕ) → value_after n (ds ++ d ∷ []) ≡ with_digit (value_after n ds) d
value_snoc n [] d = refl
value_snoc n (e ∷ ds) d = value_snoc (with_digit n e) ds d

digits_snoc : (ds : List ℕ) (d : ℕ) → all_ascii_digits ds ≡ true → is_ascii_digit d ≡ true → all_ascii_digits (ds ++ d ∷ []) ≡ true
digits_snoc [] d digits digit = and_from _ _ digit refl
digits_snoc (e ∷ ds) d digits digit =
    let parts = and_parts (is_ascii_digit e) (all_ascii_digits ds) digits in
    and_from _ _ parts.0 (digits_snoc ds d parts.1 digit)

pub value_more : (bytes : List ℕ) (i value b : ℕ) → i < length bytes → b ≡ get_or bytes i 0 → value ≡ value_after 0 (take i bytes) → with_digit value b ≡ value_after 0 (take (i + 1) bytes)
value_more bytes i value b within b_is value_is =
    rw (b_is, value_is) (sym (ap (value_after 0) (take_more bytes i 0 within) ∙ value_snoc 0 (take i bytes) (get_or bytes i 0)))

pub digits_more : (bytes : List ℕ) (i b : ℕ) → i < length bytes → b ≡ get_or bytes i 0 → all_ascii_digits (take i bytes) ≡ true → is_ascii_digit b ≡ true → all_ascii_digits (take (i + 1) bytes) ≡ true
digits_more bytes i b within b_is digits digit =
    ap all_ascii_digits (take_more bytes i 0 within) ∙ digits_snoc (take i bytes) (get_or bytes i 0) digits (ap is_ascii_digit (sym b_is) ∙ digit)

-- digits are bytes from 48 to 57
digit_range : (b : ℕ) → is_ascii_digit b ≡ true → (48 ≤ b) × (b ≤ 57)
digit_range b h =
    let least : 48 ≤ b = grind (arith, nat_tests, h) in
    let most : b ≤ 57 = grind (arith, nat_tests, h) in
    (least, most)

digit_bytes_of : (w : List ℕ) → all_ascii_digits w ≡ true → All (λ b. (48 ≤ b) × (b ≤ 57)) w
digit_bytes_of [] h = All-nil (λ b. (48 ≤ b) × (b ≤ 57))
digit_bytes_of (b ∷ bytes) h =
    let parts = and_parts (is_ascii_digit b) (all_ascii_digits bytes) h in
    All-cons (λ b. (48 ≤ b) × (b ≤ 57)) b bytes (digit_range b parts.0) (digit_bytes_of bytes parts.1)

above_blanks : (w : List ℕ) → all_ascii_digits w ≡ true → All (λ b. 32 < b) w
above_blanks w h = All-weaker (λ b. (48 ≤ b) × (b ≤ 57)) (λ b. 32 < b) (λ b k. omega (arith, k.0)) w (digit_bytes_of w h)

natural_of : (w : List ℕ) (value : ℕ) → 0 < length w → all_ascii_digits w ≡ true → value ≡ value_after 0 w → value < 10 ^ 18 → natural (2 ^ 63 - 1) w ≡ Some value
natural_of w value some digits value_is small =
    let within : nat_le (value_after 0 w) (2 ^ 63 - 1) ≡ true = le-leb (value_after 0 w) (2 ^ 63 - 1) (omega arith) in
    cond-true (is_natural (2 ^ 63 - 1) w) (Some (value_after 0 w)) None (and_from _ _ (filled_by w some) (and_from _ _ digits within)) ∙ ap Some (sym value_is)

-- a word that is ended is the first one
whole_word : (w : List ℕ) → IsWord w → words w ≡ w ∷ []
whole_word w h = ap (filter is_filled) (slice_split_none is_blank w (no_blanks w h.1)) ∙ front_word w [] h.0

first_word_of : (w behind rest : List ℕ) → IsWord w → EndsWord behind rest → words (w ++ behind) ≡ w ∷ words rest
first_word_of w behind rest h ends = ⊎_elim
    (λ (e : behind ≡ 32 ∷ rest). ap (λ t. words (w ++ t)) e ∙ first_word w rest h)
    (λ (e : (behind ≡ []) × (rest ≡ [])). ap (λ t. words (w ++ t)) e.0 ∙ ap words (append-nil w) ∙ whole_word w h ∙ ap (λ t. w ∷ words t) (sym e.1))
    ends

no_longer : (behind rest : List ℕ) → EndsWord behind rest → length rest ≤ length behind
no_longer behind rest ends = ⊎_elim
    (λ (e : behind ≡ 32 ∷ rest). omega (arith, ap length e))
    (λ (e : (behind ≡ []) × (rest ≡ [])). omega (arith, ap length e.1))
    ends

pub natural_first : (line rest : List ℕ) (count value : ℕ) → 0 < count → count ≤ length line → all_ascii_digits (take count line) ≡ true →
    value ≡ value_after 0 (take count line) → value < 10 ^ 18 → EndsWord (drop count line) rest → IsFirstNumber line (Some (pos value)) rest
natural_first line rest count value some within digits value_is small ends =
    let size : length (take count line) ≡ count = length-take-le count line within in
    let some_bytes : 0 < length (take count line) = omega arith in
    let behind = no_longer (drop count line) rest ends in
    record {
      word = take count line;
      words_are = ap words (sym (take-append-drop count line)) ∙ first_word_of (take count line) (drop count line) rest (some_bytes, above_blanks (take count line) digits) ends;
      number_is = number_plain (2 ^ 63 - 1) value (take count line) (digit_bytes_of (take count line) digits) (natural_of (take count line) value some_bytes digits value_is small);
      shorter = omega (arith, length-drop count line);
    }

pub negative_first : (bytes rest : List ℕ) (count value : ℕ) (z : ℤ) → 0 < count → count ≤ length bytes → all_ascii_digits (take count bytes) ≡ true →
    value ≡ value_after 0 (take count bytes) → value < 10 ^ 18 → Some z ≡ minus value → EndsWord (drop count bytes) rest → IsFirstNumber (45 ∷ bytes) (Some z) rest
negative_first bytes rest count value z some within digits value_is small number ends =
    let size : length (take count bytes) ≡ count = length-take-le count bytes within in
    let some_bytes : 0 < length (take count bytes) = omega arith in
    let behind = no_longer (drop count bytes) rest ends in
    let is_word : IsWord (45 ∷ take count bytes) = (omega arith, All-cons (λ b. 32 < b) 45 (take count bytes) (omega arith) (above_blanks (take count bytes) digits)) in
    record {
      word = 45 ∷ take count bytes;
      words_are = ap (λ t. words (45 ∷ t)) (sym (take-append-drop count bytes)) ∙ first_word_of (45 ∷ take count bytes) (drop count bytes) rest is_word ends;
      number_is = ap (option_and_then minus) (natural_of (take count bytes) value some_bytes digits value_is small) ∙ sym number;
      shorter = omega (arith, length-drop count bytes);
    }

pub signed_first : (line bytes rest : List ℕ) (count value : ℕ) (z : ℤ) (negative : Bool) → (negative ≡ true → line ≡ 45 ∷ bytes) →
    (negative ≡ false → line ≡ bytes) → 0 < count → count ≤ length bytes → all_ascii_digits (take count bytes) ≡ true →
    value ≡ value_after 0 (take count bytes) → value < 10 ^ 18 → Some z ≡ cond negative (minus value) (Some (pos value)) → EndsWord (drop count bytes) rest → IsFirstNumber line (Some z) rest
signed_first line bytes rest count value z true minus_first none some within digits value_is small number ends =
    subst (λ l. IsFirstNumber l (Some z) rest) (sym (minus_first refl)) (negative_first bytes rest count value z some within digits value_is small number ends)
signed_first line bytes rest count value z false minus_first none some within digits value_is small number ends =
    subst (λ o. IsFirstNumber line o rest) (sym number) (subst (λ l. IsFirstNumber l (Some (pos value)) rest) (sym (none refl))
    (natural_first bytes rest count value some within digits value_is small ends))
