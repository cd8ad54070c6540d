-- What a plain word gives where it is read.
use Rattle.std.proofs.Common.{◌≡◌, ℕ, ◌+◌, ◌-◌, ◌^◌, ◌<◌, ◌≤◌, nat_le, Bool, false, cond, drop, List, [], ◌∷◌, Some, Ok, Result, ap, ◌∙◌, arith, decimal}
use Rattle.std.proofs.lemmas.Bool.{cond-true, cond-false, le-leb}
use Rattle.std.proofs.Math.Nat.{one-le-pow, pow-le-pow_right}
use Rattle.std.specs.Option.{option_or}
use Rattle.arc_base.specs.declared.prefix.Prefix.{Prefix}
use Rattle.arc_base.specs.PrefixText.{address_of, address_text, number_of}
use Rattle.arc_base.proofs.AddressTexts.{address_of-address_text}
use Rattle.ios_words.specs.declared.kinds.BlockKind.{BlockKind}
use Rattle.ios_words.specs.declared.kinds.WordFault.{WordFault}
use Rattle.ios_words.specs.Language.{inert, rows}
use Rattle.ios_words.specs.Numbers.{length_from, list_kind, mask, mask_length, mask_of_address, area_of, number_in, wildcard_length}
use Rattle.ios_words.specs.Prefixes.{holding}
use Rattle.ios_words.specs.Readings.{State, after_word, read_parts, then_do}
use Rattle.ios_words.specs.Rows.{Piece, Rule}
use Rattle.ios_words.specs.Values.{Values, with_length, with_value}
use Rattle.ios_words.proofs.PrintedSteps.{at, ones-mask, ranged-decimal, wildcard-read}
use Rattle.ios_words.specs.Printed.{wildcard_text}

-- the row of the language at a place
abbrev pub first_rule : List Rule → Rule
first_rule [] = inert []
first_rule (rule ∷ rules) = rule

abbrev pub rule_at : BlockKind → ℕ → Rule
rule_at within n = first_rule (drop n (rows within))

-- the parts of that row after so many
abbrev pub parts_after : BlockKind → ℕ → ℕ → List Piece
parts_after within n count = drop count (rule_at within n).pieces

-- what follows a part that was read
pub go : (pieces : List Piece) {r : Result State WordFault} {t : State} → r ≡ Ok t → then_do (read_parts pieces) r ≡ read_parts pieces t
go pieces is = ap (then_do (read_parts pieces)) is

pub if-no : {A : Type 0} (b : Bool) (x y z : A) → b ≡ false → y ≡ z → cond b x y ≡ z
if-no b x y z off same = cond-false b x y off ∙ same

pub number-step : (low high taken n : ℕ) (rest : List (List ℕ)) (v : Values) → low ≤ n → n ≤ high → n < 2 ^ 64 →
    after_word (taken + 1) rest (with_value (λ m. record v { number = m }) (number_in low high (decimal n))) ≡ Ok (at (taken + 1) rest (record v { number = n }))
number-step low high taken n rest v least most small =
    ap (λ o. after_word (taken + 1) rest (with_value (λ m. record v { number = m }) o)) (ranged-decimal low high n least most small)

pub area-step : (taken area : ℕ) (rest : List (List ℕ)) (v : Values) → area < 2 ^ 32 →
    after_word (taken + 1) rest (with_value (λ a. record v { area = a }) (area_of (decimal area))) ≡ Ok (at (taken + 1) rest (record v { area = area }))
area-step taken area rest v small =
    ap (λ o. after_word (taken + 1) rest (with_value (λ a. record v { area = a }) (option_or o (address_of (decimal area)))))
    (ranged-decimal 0 (2 ^ 32 - 1) area (omega arith) (omega arith) (omega arith))

pub kind-step : (taken : ℕ) (word : List ℕ) (extended : Bool) (rest : List (List ℕ)) (v : Values) → list_kind (number_of word) ≡ Some extended →
    after_word (taken + 1) rest (with_value (λ e. record v { text = word; extended = e }) (list_kind (number_of word))) ≡ Ok (at (taken + 1) rest (record v { text = word; extended = extended }))
kind-step taken word extended rest v is = ap (λ o. after_word (taken + 1) rest (with_value (λ e. record v { text = word; extended = e }) o)) is

pub mask-small : (len : ℕ) → mask len < 2 ^ 32
mask-small len = let some : 1 ≤ 2 ^ (32 - len) = one-le-pow (32 - len) 2 (omega arith) in omega arith

mask-read : (least len : ℕ) → least ≤ len → len ≤ 32 → mask_length least (address_text (mask len)) ≡ Ok len
mask-read least len some few =
    ap (mask_of_address least) (address_of-address_text (mask len) (mask-small len)) ∙ ap (length_from least) (ones-mask len few)
    ∙ cond-true (nat_le least len) (Ok len) _ (le-leb least len some)

pub mask-step : (least taken len : ℕ) (rest : List (List ℕ)) (v : Values) → least ≤ len → len ≤ 32 →
    after_word (taken + 1) rest (with_length v (mask_length least (address_text (mask len)))) ≡ Ok (at (taken + 1) rest (record v { length = len; to = holding v.address len }))
mask-step least taken len rest v some few = ap (λ r. after_word (taken + 1) rest (with_length v r)) (mask-read least len some few)

pub wildcard-step : (p : Prefix) (taken : ℕ) (rest : List (List ℕ)) (v : Values) →
    after_word (taken + 1) rest (with_length v (wildcard_length (wildcard_text p))) ≡ Ok (at (taken + 1) rest (record v { length = p.len; to = holding v.address p.len }))
wildcard-step p taken rest v = ap (λ r. after_word (taken + 1) rest (with_length v r)) (wildcard-read p.len p.length)

pub wildcard-small : (len : ℕ) → 2 ^ (32 - len) - 1 < 2 ^ 32
wildcard-small len =
    let some : 1 ≤ 2 ^ (32 - len) = one-le-pow (32 - len) 2 (omega arith) in
    let few : 2 ^ (32 - len) ≤ 2 ^ 32 = pow-le-pow_right {n = 2} (omega arith) {i = 32 - len} {j = 32} (omega arith) in
    omega arith

-- the lengths of a prefix list's entry
pub least-step : (taken low : ℕ) (rest : List (List ℕ)) (v : Values) → v.to.len ≤ low → low ≤ 32 →
    after_word (taken + 1 + 1) rest (with_value (λ n. record v { low = n; high = 32 }) (number_in v.to.len 32 (decimal low))) ≡ Ok (at (taken + 1 + 1) rest (record v { low = low; high = 32 }))
least-step taken low rest v least most =
    ap (λ o. after_word (taken + 1 + 1) rest (with_value (λ n. record v { low = n; high = 32 }) o)) (ranged-decimal v.to.len 32 low least most (omega arith))

pub most-step : (taken high : ℕ) (rest : List (List ℕ)) (v : Values) → v.low ≤ high → high ≤ 32 →
    after_word (taken + 1 + 1) rest (with_value (λ n. record v { high = n }) (number_in v.low 32 (decimal high))) ≡ Ok (at (taken + 1 + 1) rest (record v { high = high }))
most-step taken high rest v least most =
    ap (λ o. after_word (taken + 1 + 1) rest (with_value (λ n. record v { high = n }) o)) (ranged-decimal v.low 32 high least most (omega arith))
