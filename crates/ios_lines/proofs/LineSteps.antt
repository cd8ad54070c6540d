-- The first line of what is left of a text, and the lines after it.
use Rattle.std.proofs.Common.{◌≡◌, ◌≢◌, ℕ, zero, suc, ◌+◌, ◌-◌, ◌<◌, ◌≤◌, true, ◌&&◌, nat_lt, ◌==◌, List, [], ◌∷◌}
use Rattle.std.proofs.Common.{map, length, length-drop, length-take-le, take, drop, get_or-take, get_or-drop, refl, sym, ap, ◌∙◌, arith, ⊎_elim, slice_index, slice_range}
use Rattle.std.proofs.lemmas.Bool.{cases_eq, eq-eqb, ne_eqb, lt-ltb, cond-true, cond-false}
use Rattle.std.proofs.lemmas.List.{drop_all, drop-drop, take_rest, take-take}
use Rattle.bstr.specs.Text.{lines_of, no_cr, without_terminator}
use Rattle.bstr.proofs.lemmas.LineLemmas.{line_len-at, lines-step, lines-one, lines-nil}
use Rattle.ios_lines.specs.Texts.{IsLine, text_lines}

-- bytes that end with a line feed lose it, and a carriage return before it
without-feed : (bytes : List ℕ) (e : ℕ) → length bytes ≡ e + 1 → slice_index bytes e ≡ 10 → without_terminator bytes ≡ no_cr (take e bytes)
without-feed bytes e long feed =
    let place : length bytes - 1 ≡ e = omega arith in
    let some : nat_lt 0 (length bytes) ≡ true = lt-ltb _ _ (omega arith) in
    let last : (slice_index bytes (length bytes - 1) == 10) ≡ true = eq-eqb _ _ (ap (slice_index bytes) place ∙ feed) in
    cond-true _ _ _ (ap (λ v. v && (slice_index bytes (length bytes - 1) == 10)) some ∙ last) ∙ ap (λ n. no_cr (take n bytes)) place

-- bytes that do not end with one stay
with-none : (bytes : List ℕ) → 0 < length bytes → slice_index bytes (length bytes - 1) ≢ 10 → without_terminator bytes ≡ bytes
with-none bytes some other =
    let positive : nat_lt 0 (length bytes) ≡ true = lt-ltb _ _ some in
    cond-false _ _ _ (ap (λ v. v && (slice_index bytes (length bytes - 1) == 10)) positive ∙ ne_eqb _ _ other)

-- no carriage return at the end
no-return : (bytes : List ℕ) → (0 < length bytes → slice_index bytes (length bytes - 1) ≢ 13) → no_cr bytes ≡ bytes
no-return [] other = refl
no-return (b ∷ bytes) other =
    let positive : nat_lt 0 (length (b ∷ bytes)) ≡ true = lt-ltb _ _ (omega arith) in
    cond-false _ _ _ (ap (λ v. v && (slice_index (b ∷ bytes) (length (b ∷ bytes) - 1) == 13)) positive ∙ ne_eqb _ _ (other (omega arith)))

-- a carriage return at the end
with-return : (bytes : List ℕ) → 0 < length bytes → slice_index bytes (length bytes - 1) ≡ 13 → no_cr bytes ≡ take (length bytes - 1) bytes
with-return bytes some is =
    let positive : nat_lt 0 (length bytes) ≡ true = lt-ltb _ _ some in
    cond-true _ _ _ (ap (λ v. v && (slice_index bytes (length bytes - 1) == 13)) positive ∙ eq-eqb _ _ is)

-- the lines of a text whose first line feed stands at a place
feed-step : (ys : List ℕ) (e : ℕ) → e < length ys → slice_index ys e ≡ 10 → ((k : ℕ) → k < e → slice_index ys k ≢ 10) → text_lines ys ≡ no_cr (take e ys) ∷ text_lines (drop (e + 1) ys)
feed-step ys e high feed free =
    let len = line_len-at ys e high feed free in
    let first : lines_of ys ≡ take (e + 1) ys ∷ lines_of (drop (e + 1) ys) = lines-step ys (omega arith) ∙ ap (λ k. take k ys ∷ lines_of (drop k ys)) len in
    let count : length (take (e + 1) ys) ≡ e + 1 = length-take-le (e + 1) ys (omega arith) in
    let last : slice_index (take (e + 1) ys) e ≡ 10 = get_or-take (e + 1) ys e 0 (omega arith) ∙ feed in
    ap (map without_terminator) first
    ∙ ap (λ line. line ∷ text_lines (drop (e + 1) ys)) (without-feed (take (e + 1) ys) e count last ∙ ap no_cr (take-take e (e + 1) ys (omega arith)))

-- a byte of what is left
rest-at : (text : List ℕ) (from place : ℕ) → from ≤ place → slice_index (drop from text) (place - from) ≡ slice_index text place
rest-at text from place low = get_or-drop from text (place - from) 0 ∙ ap (slice_index text) (omega arith)

-- what is left after so many bytes of what is left
rest-rest : (text : List ℕ) (from e there : ℕ) → from + e ≡ there → drop e (drop from text) ≡ drop there text
rest-rest text from e there is = drop-drop e from text ∙ ap (λ n. drop n text) is

-- what is left begins with the line that begins there
pub line-step : (text : List ℕ) (from to end : ℕ) → from < length text → IsLine text from to end → text_lines (drop from text) ≡ slice_range text from to ∷ text_lines (drop (to + end) text)
line-step text from to zero some line =
    let ys = drop from text in
    let left : length ys ≡ length text - from = length-drop from text in
    let stop : to ≡ length text = line.ending.0 in
    let free : (k : ℕ) → k < length ys → slice_index ys k ≢ 10 = λ k low feed.
    line.no_feed (from + k) (omega arith) (omega arith) (sym (get_or-drop from text k 0) ∙ feed) in
    let whole : slice_range text from to ≡ ys = ap (λ n. take (n - from) ys) stop ∙ take_rest text from in
    let gone : text_lines (drop (to + 0) text) ≡ [] = ap text_lines (drop_all (to + 0) text (omega arith)) ∙ ap (map without_terminator) lines-nil in
    ap (map without_terminator) (lines-one ys (omega arith) (λ k low. free k (omega arith)))
    ∙ ap (λ l. l ∷ []) (with-none ys (omega arith) (free (length ys - 1) (omega arith)) ∙ sym whole)
    ∙ ap (λ rest. slice_range text from to ∷ rest) (sym gone)
line-step text from to (suc zero) some line =
    let ys = drop from text in
    let e = to - from in
    let left : length ys ≡ length text - from = length-drop from text in
    let order : from ≤ to = line.ordered in
    let within : to < length text = line.ending.0 in
    let feed : slice_index ys e ≡ 10 = rest-at text from to order ∙ line.ending.1 in
    let free : (k : ℕ) → k < e → slice_index ys k ≢ 10 = λ k low is.
    line.no_feed (from + k) (omega arith) (omega arith) (sym (get_or-drop from text k 0) ∙ is) in
    let long : length (take e ys) ≡ e = length-take-le e ys (omega arith) in
    let other : 0 < length (take e ys) → slice_index (take e ys) (length (take e ys) - 1) ≢ 13 = λ more return.
    let place : length (take e ys) - 1 ≡ to - 1 - from = omega arith in
    line.ending.2 (omega arith) (sym (ap (slice_index (take e ys)) place ∙ get_or-take e ys (to - 1 - from) 0 (omega arith) ∙ rest-at text from (to - 1) (omega arith)) ∙ return) in
    feed-step ys e (omega arith) feed free
    ∙ ap (λ l. l ∷ text_lines (drop (e + 1) ys)) (no-return (take e ys) other)
    ∙ ap (λ rest. slice_range text from to ∷ text_lines rest) (rest-rest text from (e + 1) (to + 1) (omega arith))
line-step text from to (suc (suc zero)) some line =
    let ys = drop from text in
    let e = to + 1 - from in
    let left : length ys ≡ length text - from = length-drop from text in
    let order : from ≤ to = line.ordered in
    let within : to + 1 < length text = line.ending.0 in
    let feed : slice_index ys e ≡ 10 = rest-at text from (to + 1) (omega arith) ∙ line.ending.2 in
    let return : slice_index text to ≡ 13 = line.ending.1 in
    let free : (k : ℕ) → k < e → slice_index ys k ≢ 10 = λ k low is.
    let here : slice_index text (from + k) ≡ 10 = sym (get_or-drop from text k 0) ∙ is in
    ⊎_elim
    (λ last. let both : slice_index text to ≡ 10 = ap (slice_index text) (sym last) ∙ here in absurd (omega arith))
    (λ before. line.no_feed (from + k) (omega arith) (omega arith) here)
    (cases_eq (from + k) to) in
    let long : length (take e ys) ≡ e = length-take-le e ys (omega arith) in
    let place : length (take e ys) - 1 ≡ to - from = omega arith in
    let last : slice_index (take e ys) (length (take e ys) - 1) ≡ 13 = ap (slice_index (take e ys)) place ∙ get_or-take e ys (to - from) 0 (omega arith) ∙ rest-at text from to order ∙ return in
    feed-step ys e (omega arith) feed free
    ∙ ap (λ l. l ∷ text_lines (drop (e + 1) ys)) (with-return (take e ys) (omega arith) last ∙ ap (λ n. take n (take e ys)) place ∙ take-take (to - from) e ys (omega arith))
    ∙ ap (λ rest. slice_range text from to ∷ text_lines rest) (rest-rest text from (e + 1) (to + 2) (omega arith))
line-step text from to (suc (suc (suc more))) some line = absurd line.ending

-- a line takes some bytes, and ends within the text
pub line-bounds : (text : List ℕ) (from to end : ℕ) → IsLine text from to end → (from < to + end) × (to + end ≤ length text) × (to ≤ length text)
line-bounds text from to zero line = let order : from ≤ to = line.ordered in let stop : to ≡ length text = line.ending.0 in let some : from < to =
    line.ending.1 in (omega arith, omega arith, omega arith)
line-bounds text from to (suc zero) line = let order : from ≤ to = line.ordered in let within : to < length text = line.ending.0 in (omega arith, omega arith, omega arith)
line-bounds text from to (suc (suc zero)) line = let order : from ≤ to = line.ordered in let within : to + 1 < length text = line.ending.0 in (omega arith, omega arith, omega arith)
line-bounds text from to (suc (suc (suc more))) line = absurd line.ending
