-- What a word that the program writes gives where it is read.
use Rattle.std.proofs.Common.{◌≡◌, ℕ, zero, suc, ◌+◌, ◌-◌, ◌*◌, ◌/◌, ◌%◌, ◌^◌, ◌<◌, ◌≤◌, ◌==◌, ◌&&◌, ◌||◌, nat_le, Bool, true, false, List}
use Rattle.std.proofs.Common.{[], ◌∷◌, ◌++◌, length, drop, Option, Some, None, Ok, Err, refl, sym, ap, subst, ◌∙◌, arith, codes, decimal, get_or, append-nil, append_assoc}
use Rattle.std.proofs.lemmas.Bool.{and_parts, cond-true, and_from, le-leb, eqb-true, ne_eqb}
use Rattle.std.proofs.Math.Nat.{mod-eq_of_lt, one-le-pow, pow-le-pow_right}
use Rattle.std.proofs.lemmas.Nat.{div-add-mod'}
use Rattle.std.proofs.lemmas.List.FromFn.{get_or-range_with_len}
use Rattle.std.specs.List.{list_all, range_with_len}
use Rattle.std.specs.Option.{option_map_or}
use Rattle.std.proofs.lemmas.Fmt.{decimal_is_IsNumeral}
use Rattle.std.proofs.lemmas.Str.Parse.{digit_from_value}
use Rattle.std.specs.Str.{bytes_eq}
use Rattle.std.specs.Str.Parse.{AllDigits}
use Rattle.arc_base.specs.declared.prefix.Prefix.{Prefix}
use Rattle.arc_base.specs.PrefixText.{address_text, prefix_text, number_of}
use Rattle.arc_base.proofs.AddressTexts.{address_of-address_text, IsDotted-address_text}
use Rattle.arc_base.proofs.NumberTexts.{number_of-decimal}
use Rattle.arc_base.proofs.PrefixTexts.{prefix_cut}
use Rattle.ios_words.specs.declared.kinds.Flaw.TheVariants.{Amiss}
use Rattle.ios_words.specs.declared.rows.Form.TheVariants.{Name, FaceName, Address, ListNumber, Order, Route}
use Rattle.ios_words.specs.Names.{is_face_name}
use Rattle.arc_base.specs.NameForms.{is_name}
use Rattle.ios_words.specs.Numbers.{is_from, ranged, number_in, list_kind, mask, masks, mask_ones, length_from, wildcard_of_address, wildcard_length}
use Rattle.ios_words.specs.Prefixes.{holding}
use Rattle.ios_words.specs.Printed.{verdict_word}
use Rattle.ios_words.specs.Readings.{State, begins_entry, after_word, then_do, step, read_parts}
use Rattle.ios_words.specs.Rows.{Piece, Place, Verdict}
use Rattle.ios_words.specs.Values.{Values, with_value, tested, both, route_parts, route_of}
use Rattle.ios_words.proofs.Holding.{is-holding}

-- where a line is read
abbrev pub at : ℕ → List (List ℕ) → Values → State
at taken words values = record { taken = taken; words = words; values = values }

-- what follows a part that was read
pub chain : (piece : Piece) (pieces : List Piece) (s t : State) → step piece s ≡ Ok t → read_parts (piece ∷ pieces) s ≡ read_parts pieces t
chain piece pieces s t is = ap (then_do (read_parts pieces)) is

pub name-step : (taken : ℕ) (word : List ℕ) (rest : List (List ℕ)) (v : Values) → is_name word ≡ true →
    step (Place Name) (at taken (word ∷ rest) v) ≡ Ok (at (taken + 1) rest (record v { text = word }))
name-step taken word rest v is = ap (λ b. after_word (taken + 1) rest (with_value (λ w. record v { text = w }) (tested b word))) is

pub face-step : (taken : ℕ) (word : List ℕ) (rest : List (List ℕ)) (v : Values) → is_face_name word ≡ true →
    step (Place FaceName) (at taken (word ∷ rest) v) ≡ Ok (at (taken + 1) rest (record v { text = word }))
face-step taken word rest v is = ap (λ b. after_word (taken + 1) rest (with_value (λ w. record v { text = w }) (tested b word))) is

pub address-step : (taken addr : ℕ) (rest : List (List ℕ)) (v : Values) → addr < 2 ^ 32 →
    step (Place Address) (at taken (address_text addr ∷ rest) v) ≡ Ok (at (taken + 1) rest (record v { address = addr }))
address-step taken addr rest v small = ap (λ o. after_word (taken + 1) rest (with_value (λ a. record v { address = a }) o)) (address_of-address_text addr small)

-- a number in its range
pub ranged-decimal : (low high n : ℕ) → low ≤ n → n ≤ high → n < 2 ^ 64 → number_in low high (decimal n) ≡ Some n
ranged-decimal low high n least most small =
    ap (ranged low high) (number_of-decimal n small) ∙ cond-true (is_from low high n) (Some n) None (and_from _ _ (le-leb low n least) (le-leb n high most))

pub order-step : (high taken n : ℕ) (rest : List (List ℕ)) (v : Values) → 1 ≤ n → n ≤ high → n < 2 ^ 64 →
    step (Place (Order high)) (at taken (decimal n ∷ rest) v) ≡ Ok (at (taken + 1) rest (record v { order = Some n }))
order-step high taken n rest v some most small = ap (λ o. after_word (taken + 1) rest (with_value (λ m. record v { order = Some m }) o)) (ranged-decimal 1 high n some most small)

pub list_number-step : (taken : ℕ) (word : List ℕ) (rest : List (List ℕ)) (v : Values) → list_kind (number_of word) ≡ Some true →
    step (Place ListNumber) (at taken (word ∷ rest) v) ≡ Ok (at (taken + 1) rest (record v { text = word; extended = true }))
list_number-step taken word rest v is = ap (λ o. after_word (taken + 1) rest (with_value (λ extended. record v { text = word; extended = extended }) o)) is

pub verdict-step : (permit : Bool) (taken : ℕ) (rest : List (List ℕ)) (v : Values) → step Verdict (at taken (verdict_word permit ∷ rest) v) ≡ Ok (at (taken + 1) rest (record v { permit = permit }))
verdict-step true taken rest v = refl
verdict-step false taken rest v = refl

pub verdict-begins : (permit : Bool) (rest : List (List ℕ)) → begins_entry (verdict_word permit ∷ rest) ≡ true
verdict-begins true rest = refl
verdict-begins false rest = refl

-- words that begin with a digit are none that begins with a letter
not-word : (c : ℕ) (cs ds rest : List ℕ) → AllDigits 10 ds → 0 < length ds → 57 < c → bytes_eq (ds ++ rest) (c ∷ cs) ≡ false
not-word c cs [] rest digits some high = absurd (omega arith)
not-word c cs (d ∷ ds) rest digits some high =
    let low = (digit_from_value d digits.0).1 in
    ap (λ b. b && bytes_eq (ds ++ rest) cs) (ne_eqb d c (omega (arith, low)))

pub decimal-word : (n c : ℕ) (cs : List ℕ) → n < 2 ^ 64 → 57 < c → bytes_eq (decimal n) (c ∷ cs) ≡ false
decimal-word n c cs small high =
    let numeral = (decimal_is_IsNumeral n small).0 in
    subst (λ w. bytes_eq w (c ∷ cs) ≡ false) (append-nil (decimal n)) (not-word c cs (decimal n) [] numeral.1 numeral.0 high)

pub address-word : (addr c : ℕ) (cs : List ℕ) → addr < 2 ^ 32 → 57 < c → bytes_eq (address_text addr) (c ∷ cs) ≡ false
address-word addr c cs small high =
    let dotted = IsDotted-address_text addr small in
    let numeral = (decimal_is_IsNumeral dotted.a (omega (arith, dotted.fit.0))).0 in
    let tail = codes "." ++ decimal dotted.b ++ codes "." ++ decimal dotted.c ++ codes "." ++ decimal dotted.d in
    let spelled : address_text addr ≡ decimal dotted.a ++ tail = dotted.spelled ∙ simp append_assoc in
    subst (λ w. bytes_eq w (c ∷ cs) ≡ false) (sym spelled) (not-word c cs (decimal dotted.a) tail numeral.1 numeral.0 high)

-- nor do they begin an entry without a number
pub number-begins : (n : ℕ) (rest : List (List ℕ)) → n < 2 ^ 64 → begins_entry (decimal n ∷ rest) ≡ false
number-begins n rest small =
    let permit = decimal-word n 112 (drop 1 (codes "permit")) small (omega arith) in
    let deny = decimal-word n 100 (drop 1 (codes "deny")) small (omega arith) in
    let remark = decimal-word n 114 (drop 1 (codes "remark")) small (omega arith) in
    ap (λ b. (b || bytes_eq (decimal n) (codes "deny")) || bytes_eq (decimal n) (codes "remark")) permit
    ∙ ap (λ b. b || bytes_eq (decimal n) (codes "remark")) deny ∙ remark

-- the prefix that holds a prefix's address, of its length, is the prefix
pub holding-prefix : (p : Prefix) → holding p.addr p.len ≡ p
holding-prefix p =
    let small : p.addr % 2 ^ 32 ≡ p.addr = mod-eq_of_lt p.in_range in
    let parts : p.addr / 2 ^ (32 - p.len) * 2 ^ (32 - p.len) + p.addr % 2 ^ (32 - p.len) ≡ p.addr = div-add-mod' p.addr (2 ^ (32 - p.len)) in
    let clear : p.addr % 2 ^ (32 - p.len) ≡ 0 = p.clear in
    let whole : p.addr / 2 ^ (32 - p.len) * 2 ^ (32 - p.len) ≡ p.addr = omega arith in
    sym (is-holding p p.addr p.len p.length (sym (ap (λ n. n / 2 ^ (32 - p.len) * 2 ^ (32 - p.len)) small ∙ whole)) refl)

-- a mask is known by the number of its ones
is-ones : ℕ → Bool
is-ones n = option_map_or (λ k. k == n) (mask_ones (mask n)) false

all-ones : list_all is-ones (range_with_len 0 33) ≡ true
unfolding is-ones masks
all-ones = refl

each-at : (p : ℕ → Bool) (xs : List ℕ) (k : ℕ) → list_all p xs ≡ true → k < length xs → p (get_or xs k 0) ≡ true
each-at p [] k all low = absurd (omega arith)
each-at p (x ∷ xs) zero all low = (and_parts _ _ all).0
each-at p (x ∷ xs) (suc k) all low = each-at p xs k (and_parts _ _ all).1 (omega arith)

some-one : (n : ℕ) (o : Option ℕ) → option_map_or (λ k. k == n) o false ≡ true → o ≡ Some n
some-one n None is = absurd cc
some-one n (Some k) is = ap Some (eqb-true k n is)

pub ones-mask : (n : ℕ) → n ≤ 32 → mask_ones (mask n) ≡ Some n
unfolding is-ones
ones-mask n low =
    let here = each-at is-ones (range_with_len 0 33) n all-ones (omega arith) in
    let place : get_or (range_with_len 0 33) n 0 ≡ 0 + n = get_or-range_with_len 0 33 n 0 (omega arith) in
    let there : get_or (range_with_len 0 33) n 0 ≡ n = omega arith in
    some-one n (mask_ones (mask n)) (subst (λ k. is-ones k ≡ true) there here)

-- the wildcard of a length
pub wildcard-read : (len : ℕ) → len ≤ 32 → wildcard_length (address_text (2 ^ (32 - len) - 1)) ≡ Ok len
wildcard-read len low =
    let some : 1 ≤ 2 ^ (32 - len) = one-le-pow (32 - len) 2 (omega arith) in
    let few : 2 ^ (32 - len) ≤ 2 ^ 32 = pow-le-pow_right {n = 2} (omega arith) {i = 32 - len} {j = 32} (omega arith) in
    let small : 2 ^ (32 - len) - 1 < 2 ^ 32 = omega arith in
    let turned : 2 ^ 32 - 1 - (2 ^ (32 - len) - 1) ≡ mask len = omega arith in
    ap wildcard_of_address (address_of-address_text (2 ^ (32 - len) - 1) small) ∙ ap (λ a. length_from 0 (mask_ones a)) turned ∙ ap (length_from 0) (ones-mask len low)
    ∙ cond-true (nat_le 0 len) (Ok len) (Err Amiss) (le-leb 0 len (omega arith))

-- the address and the length of a prefix
pub route-read : (p : Prefix) → route_of (prefix_text p) ≡ Some (p.addr, p.len)
route-read p =
    let len : p.len ≤ 32 = p.length in
    ap route_parts (prefix_cut p) ∙ ap (λ a. both a (number_in 0 32 (decimal p.len))) (address_of-address_text p.addr p.in_range)
    ∙ ap (both (Some p.addr)) (ranged-decimal 0 32 p.len (omega arith) (omega arith) (omega arith))

pub route-step : (p : Prefix) (taken : ℕ) (rest : List (List ℕ)) (v : Values) →
    step (Place Route) (at taken (prefix_text p ∷ rest) v) ≡ Ok (at (taken + 1) rest (record v { to = p; low = p.len; high = p.len }))
route-step p taken rest v =
    ap (λ o. after_word (taken + 1) rest (with_value (λ r. record v { to = holding r.0 r.1; low = r.1; high = r.1 }) o)) (route-read p)
    ∙ ap (λ (q : Prefix). Ok (at (taken + 1) rest (record v { to = q; low = p.len; high = p.len }))) (holding-prefix p)
