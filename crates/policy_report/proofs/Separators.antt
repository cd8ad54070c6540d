-- Texts that a separator cuts in two: where no byte before it is the separator, it is the first, and
-- what was cut is joined.
use Rattle.std.proofs.Common.{◌≡◌, ℕ, ◌+◌, ◌^◌, ◌<◌, ◌≤◌, ◌==◌, ◌&&◌, not, nat_lt, Bool, true, false, cond, List, [], ◌∷◌, ◌++◌, length, get_or, take}
use Rattle.std.proofs.Common.{drop, position, option_map, Some, None, All, refl, sym, ap, ◌∙◌, arith, lt-ltb, eq-eqb, ne_eqb, append_assoc, length-append, drop-cons, add-one}
use Rattle.std.proofs.Common.{take-append-drop, decimal}
use Rattle.std.specs.List.{position_or_len}
use Rattle.std.proofs.lemmas.Bool.{and_parts, eqb-true, cond-false, le-ltb, not-true}
use Rattle.std.proofs.lemmas.Fmt.{decimal_is_IsNumeral}
use Rattle.std.proofs.lemmas.List.{take_at, drop_at}
use Rattle.std.proofs.lemmas.List.Elements.{All-nil, All-cons, All-head, All-tail, All-from_get_or}
use Rattle.std.proofs.lemmas.List.Quantifiers.{position-Some}
use Rattle.std.proofs.lemmas.Str.Parse.{digit_at}
use Rattle.std.proofs.NetLemmas.Options.{map_some}
use Rattle.arc_base.specs.Cuts.{cut_at}

-- no byte of them is this one
abbrev pub Lacks : ℕ → List ℕ → Type 0
Lacks byte bytes = All (λ b. (b == byte) ≡ false) bytes

-- a test of bytes that are written out
abbrev pub lacks : ℕ → List ℕ → Bool
lacks byte [] = true
lacks byte (b ∷ bytes) = not (b == byte) && lacks byte bytes

pub written : (byte : ℕ) (bytes : List ℕ) → lacks byte bytes ≡ true → Lacks byte bytes
written byte [] e = All-nil (λ b. (b == byte) ≡ false)
written byte (b ∷ bytes) e =
    let (here, rest) = and_parts _ _ e in
    All-cons (λ b. (b == byte) ≡ false) b bytes (not-true (b == byte) here) (written byte bytes rest)

-- digits lack each byte that is none
pub decimal_lacks : (byte n : ℕ) → ((b : ℕ) → 48 ≤ b → b ≤ 57 → b ≡ byte → ⊥) → n < 2 ^ 64 → Lacks byte (decimal n)
decimal_lacks byte n other fits =
    let numeral = (decimal_is_IsNumeral n fits).0 in
    All-from_get_or (λ b. (b == byte) ≡ false) (decimal n) 0
    (λ i within. let at = digit_at (decimal n) i numeral.1 within in ne_eqb _ _ (other (get_or (decimal n) i 0) at.0 at.1))

-- where the separator stands first
first_at : (byte : ℕ) (xs ys : List ℕ) → Lacks byte xs → position_or_len (λ b. b == byte) (xs ++ byte ∷ ys) ≡ length xs
first_at byte [] ys h = let here : (byte == byte) ≡ true = eq-eqb byte byte refl in rw here refl
first_at byte (x ∷ xs) ys h =
    let here : (x == byte) ≡ false = All-head (λ b. (b == byte) ≡ false) x xs h in
    rw here (omega (arith, first_at byte xs ys (All-tail (λ b. (b == byte) ≡ false) x xs h)))

none_at : (byte : ℕ) (xs : List ℕ) → Lacks byte xs → position_or_len (λ b. b == byte) xs ≡ length xs
none_at byte [] h = refl
none_at byte (x ∷ xs) h =
    let here : (x == byte) ≡ false = All-head (λ b. (b == byte) ≡ false) x xs h in
    rw here (omega (arith, none_at byte xs (All-tail (λ b. (b == byte) ≡ false) x xs h)))

-- a text is cut at its separator
pub joined_cut : (byte : ℕ) (xs ys : List ℕ) → Lacks byte xs → cut_at byte (xs ++ byte ∷ ys) ≡ Some (xs, ys)
joined_cut byte xs ys h =
    let at = first_at byte xs ys h in
    let more : length xs < length (xs ++ byte ∷ ys) = omega (arith, length-append xs (byte ∷ ys)) in
    let after : drop (length xs + 1) (xs ++ byte ∷ ys) ≡ ys =
    ap (drop (length xs + 1)) (sym (append_assoc xs (byte ∷ []) ys)) ∙ drop_at (xs ++ byte ∷ []) ys (length xs + 1) (length-append xs (byte ∷ [])) in
    rw (at, lt-ltb _ _ more, take_at xs (byte ∷ ys) (length xs) refl, after) refl

-- a text without it is not cut
pub no_cut : (byte : ℕ) (text : List ℕ) → Lacks byte text → cut_at byte text ≡ None
no_cut byte text h =
    let p : ℕ → Bool = λ b. b == byte in
    ap (option_map (λ place. (take place text, drop (place + 1) text)))
    (ap (λ (k : ℕ). cond (nat_lt k (length text)) (Some k) None) (none_at byte text h)
    ∙ cond-false (nat_lt (length text) (length text)) (Some (length text)) None (le-ltb (length text) (length text) (omega arith)))

-- what was cut is joined
pub cut_joined : (byte : ℕ) (text xs ys : List ℕ) → cut_at byte text ≡ Some (xs, ys) → text ≡ xs ++ byte ∷ ys
cut_joined byte text xs ys e =
    map_some _ (position (λ b. b == byte) text) (xs, ys) e λ place place_is parts.
    let (within, at_place, _) = position-Some (λ b. b == byte) text place 0 place_is in
    let front : take place text ≡ xs = ap (λ p. p.0) parts in
    let back : drop (place + 1) text ≡ ys = ap (λ p. p.1) parts in
    let separator : get_or text place 0 ≡ byte = eqb-true _ _ at_place in
    let split : drop place text ≡ get_or text place 0 ∷ drop (place + 1) text = rw add-one (drop-cons text place 0 within) in
    sym (take-append-drop place text) ∙ rw (split, separator, front, back) refl
