-- What is written is read again: words, numbers and lines.
use Rattle.std.proofs.Common.{◌≡◌, ℕ, suc, ◌-◌, ◌<◌, ◌≤◌, ◌^◌, ℤ, pos, negsuc, true, false, ◌||◌, ◌==◌, nat_le, List, [], ◌∷◌, ◌++◌}
use Rattle.std.proofs.Common.{length, take, get_or, filter, refl, ap, ap₂, sym, ◌∙◌, arith, rules, All, Some, None, decimal, append_assoc, option_map, option_and_then, is_none, length-append}
use Rattle.std.specs.List.{list_any, slice_split, onto_first, cons_option}
use Rattle.std.specs.Str.{all_ascii_digits}
use Rattle.std.proofs.lemmas.Str.Parse.{IsNumeralModel, numerals_by_fold, tells_all_ascii_digits, FoldsDigits, digit_at}
use Rattle.std.proofs.lemmas.Fmt.{digits_decimal, digits_value-decimal, decimal_nonempty, decimal_is_IsNumeral}
use Rattle.std.proofs.lemmas.Option.{none-some}
use Rattle.std.proofs.lemmas.List.{get_or_at}
use Rattle.std.proofs.lemmas.Bool.{and_from, and_left, le-leb, cond-true, cond-false, ne_eqb}
use Rattle.std.proofs.lemmas.List.Splits.{slice_split_at}
use Rattle.std.proofs.lemmas.List.Elements.{All-cons, All-nil, All-append, All-weaker, All-from_get_or, All-head, All-tail}
use Rattle.arc_base.specs.WordNumbers.{natural, is_natural, number, minus, value_after}
use Rattle.arc_base.specs.TextLines.{lines, without_return, is_line_feed}
use Rattle.arc_base.specs.Words.{words, is_filled, is_blank}
use Rattle.cnf_types.specs.Dimacs.{is_comment}
use Rattle.proof_log.specs.declared.numbers.Sign.TheVariants.{Adds, Drops, Bounds}
use Rattle.proof_log.specs.Reading.{log_number, numbers, is_bad, sign_of}
use Rattle.proof_log.specs.Texts.{before_spaces}

folds : FoldsDigits value_after
folds = search rules

own : IsNumeralModel (λ ds. all_ascii_digits ds ≡ true) (value_after 0)
own = numerals_by_fold _ tells_all_ascii_digits value_after folds

pub filled_by : (bytes : List ℕ) → 0 < length bytes → is_filled bytes ≡ true
filled_by [] h = absurd (omega arith)
filled_by (b ∷ bytes) h = refl

-- a number as it is written is that number
pub natural_decimal : (limit n : ℕ) → n < 2 ^ 64 → n ≤ limit → natural limit (decimal n) ≡ Some n
natural_decimal limit n fits small =
    let value : value_after 0 (decimal n) ≡ n = digits_value-decimal own n fits in
    let digits : all_ascii_digits (decimal n) ≡ true = digits_decimal own n fits in
    let within : nat_le (value_after 0 (decimal n)) limit ≡ true = le-leb (value_after 0 (decimal n)) limit (omega arith) in
    cond-true (is_natural limit (decimal n)) (Some (value_after 0 (decimal n))) None (and_from _ _ (filled_by (decimal n) (decimal_nonempty n fits)) (and_from _ _ digits within)) ∙ ap Some value

-- a word of bytes from 33 to 57: digits and a minus sign are such
abbrev pub IsPlain : List ℕ → Type 0
IsPlain w = (0 < length w) × All (λ b. (32 < b) × (b ≤ 57)) w

-- a word of bytes from 33 on
abbrev pub IsWord : List ℕ → Type 0
IsWord w = (0 < length w) × All (λ b. 32 < b) w

pub plain_word : (w : List ℕ) → IsPlain w → IsWord w
plain_word w h = (h.0, All-weaker (λ b. (32 < b) × (b ≤ 57)) (λ b. 32 < b) (λ b k. k.0) w h.1)

digit_bytes : (n : ℕ) → n < 2 ^ 64 → All (λ b. (48 ≤ b) × (b ≤ 57)) (decimal n)
digit_bytes n fits =
    let numeral = (decimal_is_IsNumeral n fits).0 in
    All-from_get_or (λ b. (48 ≤ b) × (b ≤ 57)) (decimal n) 0 (λ i within. let at = digit_at (decimal n) i numeral.1 within in (omega (arith, at), omega (arith, at)))

pub decimal_plain : (n : ℕ) → n < 2 ^ 64 → IsPlain (decimal n)
decimal_plain n fits = (decimal_nonempty n fits, All-weaker (λ b. (48 ≤ b) × (b ≤ 57)) (λ b. (32 < b) × (b ≤ 57)) (λ b k. (omega (arith, k.0), k.1)) (decimal n) (digit_bytes n fits))

pub minus_plain : (n : ℕ) → n < 2 ^ 64 → IsPlain (45 ∷ decimal n)
minus_plain n fits = (omega arith, All-cons (λ b. (32 < b) × (b ≤ 57)) 45 (decimal n) (omega arith, omega arith) ((decimal_plain n fits).1))

-- digits without a sign
pub number_plain : (limit n : ℕ) (w : List ℕ) → All (λ b. (48 ≤ b) × (b ≤ 57)) w → natural limit w ≡ Some n → number limit w ≡ Some (pos n)
number_plain limit n [] digits e = absurd (none-some n e)
number_plain limit n (b ∷ bytes) digits e =
    let low = (All-head (λ b. (48 ≤ b) × (b ≤ 57)) b bytes digits).0 in
    cond-false (b == 45) (option_and_then minus (natural limit bytes)) (option_map pos (natural limit (b ∷ bytes))) (ne_eqb b 45 (λ h. omega (arith, low))) ∙ ap (option_map pos) e

pub number_decimal : (n : ℕ) → n < 2 ^ 63 → log_number (decimal n) ≡ Some (pos n)
number_decimal n fits = number_plain (2 ^ 63 - 1) n (decimal n) (digit_bytes n (omega arith)) (natural_decimal (2 ^ 63 - 1) n (omega arith) (omega arith))

pub number_minus : (n : ℕ) → suc n < 2 ^ 63 → log_number (45 ∷ decimal (suc n)) ≡ Some (negsuc n)
number_minus n fits = ap (option_and_then minus) (natural_decimal (2 ^ 63 - 1) (suc n) (omega arith) (omega arith))

-- words with spaces behind them
not_blank : (b : ℕ) → 32 < b → is_blank b ≡ false
not_blank b h = ap₂ (λ x y. x || y) (ne_eqb b 32 (λ e. omega arith)) (ne_eqb b 9 (λ e. omega arith))

pub no_blanks : (w : List ℕ) → All (λ b. 32 < b) w → All (λ b. is_blank b ≡ false) w
no_blanks w h = All-weaker (λ b. 32 < b) (λ b. is_blank b ≡ false) (λ b k. not_blank b k) w h

pub front_word : (w : List ℕ) (ps : List (List ℕ)) → 0 < length w → filter is_filled (w ∷ ps) ≡ w ∷ filter is_filled ps
front_word w ps h = cond-true (is_filled w) (w ∷ filter is_filled ps) (filter is_filled ps) (filled_by w h)

pub first_word : (w rest : List ℕ) → IsWord w → words (w ++ 32 ∷ rest) ≡ w ∷ words rest
first_word w rest h =
    ap (filter is_filled) (slice_split_at is_blank w 32 rest (no_blanks w h.1) refl) ∙ front_word w (slice_split is_blank rest) h.0

-- each is a word
abbrev pub AreWords : List (List ℕ) → Type 0
AreWords [] = Unit {0}
AreWords (w ∷ ws) = IsWord w × AreWords ws

spaced_first : (w : List ℕ) (ws : List (List ℕ)) (rest : List ℕ) → before_spaces (w ∷ ws) ++ rest ≡ w ++ 32 ∷ (before_spaces ws ++ rest)
spaced_first w ws rest = append_assoc (w ++ 32 ∷ []) (before_spaces ws) rest ∙ append_assoc w (32 ∷ []) (before_spaces ws ++ rest)

pub words_spaced : (ws : List (List ℕ)) → AreWords ws → words (before_spaces ws ++ 48 ∷ []) ≡ ws ++ (48 ∷ []) ∷ []
words_spaced [] h = refl
words_spaced (w ∷ ws) h =
    ap words (spaced_first w ws (48 ∷ [])) ∙ first_word w (before_spaces ws ++ 48 ∷ []) h.0 ∙ ap (λ vs. w ∷ vs) (words_spaced ws h.1)

pub spaced_append : (vs ws : List (List ℕ)) → before_spaces (vs ++ ws) ≡ before_spaces vs ++ before_spaces ws
spaced_append [] ws = refl
spaced_append (v ∷ vs) ws = ap (λ r. (v ++ 32 ∷ []) ++ r) (spaced_append vs ws) ∙ sym (append_assoc (v ++ 32 ∷ []) (before_spaces vs) (before_spaces ws))

-- no byte of them ends a line
abbrev pub IsInLine : List ℕ → Type 0
IsInLine bytes = All (λ b. 31 < b) bytes

pub spaced_in_line : (ws : List (List ℕ)) → AreWords ws → IsInLine (before_spaces ws)
spaced_in_line [] h = All-nil (λ b. 31 < b)
spaced_in_line (w ∷ ws) h =
    All-append (λ b. 31 < b) (w ++ 32 ∷ []) (before_spaces ws) (All-append (λ b. 31 < b) w (32 ∷ [])
    (All-weaker (λ b. 32 < b) (λ b. 31 < b) (λ b k. omega (arith, k)) w (h.0).1) (All-cons (λ b. 31 < b) 32 [] (omega arith) (All-nil (λ b. 31 < b)))) (spaced_in_line ws h.1)

pub line_and_rest : (line rest : List ℕ) → IsInLine line → lines (line ++ 10 ∷ rest) ≡ line ∷ lines rest
line_and_rest [] rest h = refl
line_and_rest (b ∷ line) rest h =
    let here : is_line_feed b ≡ false = ne_eqb b 10 (λ e. omega (arith, All-head (λ b. 31 < b) b line h)) in
    cond-false (is_line_feed b) ([] ∷ lines (line ++ 10 ∷ rest)) (onto_first b (lines (line ++ 10 ∷ rest))) here ∙ ap (onto_first b) (line_and_rest line rest (All-tail (λ b. 31 < b) b line h))

-- a line that ends in a zero has no carriage return at its end
pub no_return : (bytes : List ℕ) → without_return (bytes ++ 48 ∷ []) ≡ bytes ++ 48 ∷ []
no_return bytes =
    let size : length (bytes ++ 48 ∷ []) - 1 ≡ length bytes = omega (arith, length-append bytes (48 ∷ [])) in
    let end : get_or (bytes ++ 48 ∷ []) (length (bytes ++ 48 ∷ []) - 1) 0 ≡ 48 = get_or_at bytes 48 [] 0 (length (bytes ++ 48 ∷ []) - 1) (sym size) in
    cond-false _ (take (length (bytes ++ 48 ∷ []) - 1) (bytes ++ 48 ∷ [])) (bytes ++ 48 ∷ []) (ap (λ b. b == 13) end)

-- a line that begins with a plain word is no comment
pub no_comment : (w rest : List ℕ) → IsPlain w → is_comment (w ++ rest) ≡ false
no_comment [] rest h = absurd (omega (arith, h.0))
no_comment (b ∷ bytes) rest h = ne_eqb b 99 (λ e. omega (arith, (All-head (λ b. (32 < b) × (b ≤ 57)) b bytes h.1).1))

-- a plain word is no letter
pub adds_by : (w : List ℕ) → IsPlain w → sign_of w ≡ Adds
adds_by [] h = absurd (omega (arith, h.0))
adds_by (b ∷ bytes) h =
    let low = (All-head (λ b. (32 < b) × (b ≤ 57)) b bytes h.1).1 in
    cond-false _ Drops _ (and_left (b == 100) _ (ne_eqb b 100 (λ e. omega (arith, low)))) ∙ cond-false _ Bounds Adds (and_left (b == 98) _ (ne_eqb b 98 (λ e. omega (arith, low))))

-- words and the numbers that they write
abbrev pub Write : List (List ℕ) → List ℤ → Type 0
Write [] [] = Unit {0}
Write [] (z ∷ zs) = ⊥
Write (w ∷ ws) [] = ⊥
Write (w ∷ ws) (z ∷ zs) = (log_number w ≡ Some z) × Write ws zs

pub written_good : (ws : List (List ℕ)) (zs : List ℤ) → Write ws zs → list_any is_bad ws ≡ false
written_good [] [] h = refl
written_good [] (z ∷ zs) h = absurd h
written_good (w ∷ ws) [] h = absurd h
written_good (w ∷ ws) (z ∷ zs) h = ap₂ (λ x y. x || y) (ap is_none h.0) (written_good ws zs h.1)

pub written_numbers : (ws : List (List ℕ)) (zs : List ℤ) → Write ws zs → numbers ws ≡ zs
written_numbers [] [] h = refl
written_numbers [] (z ∷ zs) h = absurd h
written_numbers (w ∷ ws) [] h = absurd h
written_numbers (w ∷ ws) (z ∷ zs) h = ap₂ cons_option h.0 (written_numbers ws zs h.1)

pub write_append : (vs ws : List (List ℕ)) (ys zs : List ℤ) → Write vs ys → Write ws zs → Write (vs ++ ws) (ys ++ zs)
write_append [] ws [] zs h k = k
write_append [] ws (y ∷ ys) zs h k = absurd h
write_append (v ∷ vs) ws [] zs h k = absurd h
write_append (v ∷ vs) ws (y ∷ ys) zs h k = (h.0, write_append vs ws ys zs h.1 k)

pub words_append : (vs ws : List (List ℕ)) → AreWords vs → AreWords ws → AreWords (vs ++ ws)
words_append [] ws h k = k
words_append (v ∷ vs) ws h k = (h.0, words_append vs ws h.1 k)
