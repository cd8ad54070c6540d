-- The words that the program writes are plain.
use Rattle.std.proofs.Common.{◌≡◌, ℕ, zero, suc, ◌^◌, ◌<◌, ◌≤◌, inl, inr, nat_lt, Bool, true, List, []}
use Rattle.std.proofs.Common.{◌∷◌, ◌++◌, length, get_or, Some, None, refl, sym, ap, ◌∙◌, arith, codes, decimal, Contains, length-append}
use Rattle.std.proofs.lemmas.Bool.Decides.{nat_tests}
use Rattle.std.proofs.lemmas.Bool.{and_parts, and_from, lt-ltb, ltb-true}
use Rattle.std.proofs.lemmas.List.Folds.{list_all-append}
use Rattle.std.proofs.lemmas.Fmt.{decimal_is_IsNumeral}
use Rattle.std.proofs.lemmas.Str.Parse.{digit_from_value}
use Rattle.std.specs.Char.{is_ascii_digit}
use Rattle.std.specs.List.{list_all}
use Rattle.std.specs.Net.Text.{dotted_text}
use Rattle.std.specs.Str.Parse.{AllDigits}
use Rattle.arc_base.specs.declared.prefix.Prefix.{Prefix}
use Rattle.arc_base.specs.PrefixText.{address_text, prefix_text, number_of}
use Rattle.arc_base.proofs.AddressTexts.{IsDotted-address_text}
use Rattle.arc_base.proofs.NumberTexts.{number_of-some}
use Rattle.ios_lines.specs.Written.{is_plain}
use Rattle.ios_words.specs.Names.{is_face_name}
use Rattle.arc_base.specs.NameForms.{is_name_byte, is_name, face_kinds, IsUnit}
use Rattle.ios_words.specs.Numbers.{list_kind}
use Rattle.ios_words.proofs.NameForms.{names_formed}

high-all : (p : ℕ → Bool) (xs : List ℕ) → ((b : ℕ) → p b ≡ true → 32 < b) → list_all p xs ≡ true → list_all (nat_lt 32) xs ≡ true
high-all p [] high all = refl
high-all p (x ∷ xs) high all = let parts = and_parts _ _ all in and_from _ _ (lt-ltb _ _ (high x parts.0)) (high-all p xs high parts.1)

name-byte : (b : ℕ) → is_name_byte b ≡ true → 32 < b
name-byte b is = grind (arith, nat_tests, is)

pub name-plain : (word : List ℕ) → is_name word ≡ true → is_plain word ≡ true
name-plain word is =
    let some : 1 ≤ length word = ((names_formed word).0 is).some in
    let outer = and_parts _ _ is in
    and_from _ _ (lt-ltb 0 (length word) (omega arith)) (high-all is_name_byte word name-byte outer.1)

digit-byte : (b : ℕ) → is_ascii_digit b ≡ true → 32 < b
digit-byte b is = grind (arith, nat_tests, is)

unit-high : (unit : List ℕ) → IsUnit unit → list_all (nat_lt 32) unit ≡ true
unit-high [] is = absurd is
unit-high (b ∷ []) is = and_from _ _ (lt-ltb _ _ (digit-byte b is)) refl
unit-high (b ∷ c ∷ bs) (first, inl more) = and_from _ _ (lt-ltb _ _ (digit-byte b first)) (unit-high (c ∷ bs) more)
unit-high (b ∷ c ∷ bs) (first, inr (slash, more)) = and_from _ _ (lt-ltb _ _ (digit-byte b first)) (and_from _ _ (lt-ltb 32 c (omega arith)) (unit-high bs more))

each-at : {A : Type 0} → (p : A → Bool) (xs : List A) (k : ℕ) (d : A) → list_all p xs ≡ true → k < length xs → p (get_or xs k d) ≡ true
each-at p [] k d all low = absurd (omega arith)
each-at p (x ∷ xs) zero d all low = (and_parts _ _ all).0
each-at p (x ∷ xs) (suc k) d all low = each-at p xs k d (and_parts _ _ all).1 (omega arith)

kinds-plain : (kind : List ℕ) → Contains face_kinds kind → is_plain kind ≡ true
kinds-plain kind (place, within, is) = ap is_plain (sym is) ∙ each-at is_plain face_kinds place kind refl within

pub face-plain : (word : List ℕ) → is_face_name word ≡ true → is_plain word ≡ true
face-plain word is =
    let form = (names_formed word).1 is in
    let kind = kinds-plain form.kind form.known in
    let parts = and_parts _ _ kind in
    let some : 0 < length form.kind = ltb-true _ _ parts.0 in
    let long : 0 < length word = omega (arith, ap length form.joined, length-append form.kind form.unit) in
    and_from _ _ (lt-ltb _ _ long) (ap (list_all (nat_lt 32)) form.joined ∙ list_all-append (nat_lt 32) form.kind form.unit ∙ and_from _ _ parts.1 (unit-high form.unit form.numbers))

digits-high : (ds : List ℕ) → AllDigits 10 ds → list_all (nat_lt 32) ds ≡ true
digits-high [] digits = refl
digits-high (d ∷ ds) digits = let low = (digit_from_value d digits.0).0 in and_from _ _ (lt-ltb 32 d (omega (arith, low))) (digits-high ds digits.1)

pub decimal-plain : (n : ℕ) → n < 2 ^ 64 → is_plain (decimal n) ≡ true
decimal-plain n small = let numeral = (decimal_is_IsNumeral n small).0 in and_from _ _ (lt-ltb _ _ numeral.0) (digits-high (decimal n) numeral.1)

plain-parts : (word : List ℕ) → is_plain word ≡ true → (nat_lt 0 (length word) ≡ true) × (list_all (nat_lt 32) word ≡ true)
plain-parts word plain = and_parts _ _ plain

-- plain words joined are one
pub plain-join : (xs ys : List ℕ) → is_plain xs ≡ true → is_plain ys ≡ true → is_plain (xs ++ ys) ≡ true
plain-join xs ys one two =
    let first = plain-parts xs one in
    let second = plain-parts ys two in
    let some : 0 < length xs = ltb-true _ _ first.0 in
    and_from _ _ (lt-ltb _ _ (omega (arith, length-append xs ys))) (list_all-append (nat_lt 32) xs ys ∙ and_from _ _ first.1 second.1)

-- a plain word, where its bytes are not looked at
Plain : List ℕ → Type 0
Plain word = is_plain word ≡ true

join : (xs ys : List ℕ) → Plain xs → Plain ys → Plain (xs ++ ys)
unfolding Plain
join xs ys one two = plain-join xs ys one two

dot : Plain (codes ".")
unfolding Plain
dot = refl

byte : (n : ℕ) → n < 256 → Plain (decimal n)
unfolding Plain
byte n small = decimal-plain n (omega arith)

dotted-plain : (a b c d : ℕ) → (a < 256) × (b < 256) × (c < 256) × (d < 256) → Plain (dotted_text a b c d)
dotted-plain a b c d fit =
    let point = λ (xs : List ℕ) (plain : Plain xs). join xs (codes ".") plain dot in
    let number = λ (xs : List ℕ) (plain : Plain xs) (n : ℕ) (low : n < 256). join xs (decimal n) plain (byte n low) in
    number _ (point _ (number _ (point _ (number _ (point _ (byte a fit.0)) b fit.1)) c fit.2)) d fit.3

opened : (word : List ℕ) → Plain word → is_plain word ≡ true
unfolding Plain
opened word plain = plain

pub address-plain : (addr : ℕ) → addr < 2 ^ 32 → is_plain (address_text addr) ≡ true
address-plain addr small =
    let dotted = IsDotted-address_text addr small in
    ap is_plain dotted.spelled ∙ opened _ (dotted-plain dotted.a dotted.b dotted.c dotted.d dotted.fit)

pub prefix-plain : (p : Prefix) → is_plain (prefix_text p) ≡ true
prefix-plain p =
    let len : p.len ≤ 32 = p.length in
    plain-join (address_text p.addr ++ codes "/") (decimal p.len) (plain-join (address_text p.addr) (codes "/") (address-plain p.addr p.in_range) refl) (decimal-plain p.len (omega arith))

pub list_number-plain : (name : List ℕ) → list_kind (number_of name) ≡ Some true → is_plain name ≡ true
list_number-plain name is = go (number_of name) refl is
  where
    go : (o : _) → number_of name ≡ o → list_kind o ≡ Some true → is_plain name ≡ true
    go None e kind = absurd cc
    go (Some n) e kind = let written = number_of-some name n e in ap is_plain written.1 ∙ decimal-plain n written.0
