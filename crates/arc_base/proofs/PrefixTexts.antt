-- Which prefix a text writes.
use Rattle.std.proofs.Common.{◌≡◌, ℕ, ◌+◌, ◌-◌, ◌%◌, ◌^◌, ◌<◌, ◌≤◌, ◌==◌, Bool, true, false, List, [], ◌∷◌, ◌++◌, length, get_or, take, drop, Option, Some, None}
use Rattle.std.proofs.Common.{option_and_then, decimal, codes, position, refl, sym, ap, subst, ◌∙◌, arith, lt-ltb, le-leb, eq-eqb, ne_eqb, append_assoc, true≢false, length-append, drop-cons}
use Rattle.std.proofs.Common.{add-one, take-append-drop, IsSome, IfSome, ◌↔◌}
use Rattle.std.proofs.lemmas.Bool.{and_from, eqb-true}
use Rattle.std.proofs.lemmas.List.{take_at, drop_at}
use Rattle.std.proofs.lemmas.List.Quantifiers.{position-Some}
use Rattle.std.proofs.lemmas.Option.{none-some, same_Some}
use Rattle.std.proofs.lemmas.Fmt.{decimal_is_IsNumeral}
use Rattle.std.proofs.lemmas.Str.Parse.{digit_from_value}
use Rattle.std.proofs.NetLemmas.Options.{and_then_some, map_some}
use Rattle.std.specs.List.{AllByRecursion, position_or_len}
use Rattle.std.specs.Str.Parse.{AllDigits}
use Rattle.std.specs.Net.Text.{dotted_text}
use Rattle.arc_base.specs.declared.prefix.Prefix.{Prefix}
use Rattle.arc_base.specs.Cuts.{cut_at}
use Rattle.arc_base.specs.PrefixText.{are_prefix_parts, prefix_if, prefix_at, prefix_of, prefix_text, address_text, address_of, number_of, PrefixTextsAreExact}
use Rattle.arc_base.proofs.SamePrefix.{same_prefix}
use Rattle.arc_base.proofs.NumberTexts.{number_of-some, number_of-decimal}
use Rattle.arc_base.proofs.AddressTexts.{address_of-some, address_of-address_text, address_text-dotted, IsDotted-address_text}

-- a prefix's parts pass the test
are_parts : (p : Prefix) → are_prefix_parts p.addr p.len ≡ true
are_parts p = and_from _ _ (lt-ltb _ _ p.in_range) (and_from _ _ (le-leb _ _ p.length) (eq-eqb _ _ p.clear))

if_parts : (p : Prefix) (test : Bool) (e : are_prefix_parts p.addr p.len ≡ test) → test ≡ true → prefix_if p.addr p.len test e ≡ Some p
if_parts p false e h = absurd (true≢false (sym h))
if_parts p true e h = ap Some (same_prefix _ p refl refl)

-- the parts of a prefix give it back
pub prefix_at-parts : (p : Prefix) → prefix_at p.addr p.len ≡ Some p
prefix_at-parts p = if_parts p _ refl (are_parts p)

if_some : (addr len : ℕ) (test : Bool) (e : are_prefix_parts addr len ≡ test) (p : Prefix) → prefix_if addr len test e ≡ Some p → (p.addr ≡ addr) × (p.len ≡ len)
if_some addr len false e p h = absurd (none-some p h)
if_some addr len true e p h = let same = same_Some _ p h in (sym (ap (λ q. q.addr) same), sym (ap (λ q. q.len) same))

-- a prefix that two parts give has them
pub prefix_at-some : (addr len : ℕ) (p : Prefix) → prefix_at addr len ≡ Some p → (p.addr ≡ addr) × (p.len ≡ len)
prefix_at-some addr len p e = if_some addr len _ refl p e

-- parts that are no prefix's give none
pub prefix_at-none : (addr len : ℕ) → ((p : Prefix) → p.addr ≡ addr → p.len ≡ len → ⊥) → prefix_at addr len ≡ None
prefix_at-none addr len never = go (prefix_at addr len) refl
  where
    go : (r : _) → prefix_at addr len ≡ r → prefix_at addr len ≡ None
    go None e = e
    go (Some p) e = let (at_addr, at_len) = prefix_at-some addr len p e in absurd (never p at_addr at_len)

-- what `Prefix::new` makes of the parts
made_prefix : (addr len : ℕ) (r : Option Prefix) → (IsSome r ↔ ((len ≤ 32) × (addr % 2 ^ (32 - len) ≡ 0))) → IfSome r (λ p. (p.addr ≡ addr) × (p.len ≡ len)) → r ≡ prefix_at addr len
made_prefix addr len (Some p) valid value = sym (prefix_at-parts p) ∙ ap (λ a. prefix_at a p.len) value.0 ∙ ap (prefix_at addr) value.1
made_prefix addr len None valid value =
    sym (prefix_at-none addr len (λ p at_addr at_len.
    let P : ℕ → ℕ → Type 0 = λ a l. (l ≤ 32) × (a % 2 ^ (32 - l) ≡ 0) in
    let here : P addr len = subst (λ (l : ℕ). P addr l) at_len (subst (λ (a : ℕ). P a p.len) at_addr (p.length, p.clear)) in
    true≢false (sym (valid.1 here))))

-- the prefix that a text's parts give
parts_read : (text front back : List ℕ) (addr len : ℕ) → cut_at 47 text ≡ Some (front, back) → address_of front ≡ Some addr → number_of back ≡ Some len → prefix_of text ≡ prefix_at addr len
parts_read text front back addr len cut addr_is len_is =
    let chain : List ℕ × List ℕ → Option Prefix = λ parts. option_and_then (λ a. option_and_then (prefix_at a) (number_of parts.1)) (address_of parts.0) in
    ap (option_and_then chain) cut ∙ ap (option_and_then (λ a. option_and_then (prefix_at a) (number_of back))) addr_is ∙ ap (option_and_then (prefix_at addr)) len_is

pub read_parts : (text front back : List ℕ) (addr len : ℕ) (r : Option Prefix) →
    Some (front, back) ≡ cut_at 47 text → Some addr ≡ address_of front → Some len ≡ number_of back →
    (IsSome r ↔ ((len ≤ 32) × (addr % 2 ^ (32 - len) ≡ 0))) → IfSome r (λ p. (p.addr ≡ addr) × (p.len ≡ len)) → r ≡ prefix_of text
read_parts text front back addr len r cut addr_is len_is valid value =
    made_prefix addr len r valid value ∙ sym (parts_read text front back addr len (sym cut) (sym addr_is) (sym len_is))

-- bytes of which none is a slash
NoSlash : List ℕ → Type 0
NoSlash bytes = AllByRecursion (λ b. (b == 47) ≡ false) bytes

NoSlash-append : (xs ys : List ℕ) → NoSlash xs → NoSlash ys → NoSlash (xs ++ ys)
unfolding NoSlash
NoSlash-append [] ys h k = k
NoSlash-append (x ∷ xs) ys h k = (h.0, NoSlash-append xs ys h.1 k)

NoSlash-digits : (ds : List ℕ) → AllDigits 10 ds → NoSlash ds
unfolding NoSlash
NoSlash-digits [] h = tt
NoSlash-digits (d ∷ ds) h =
    let low : 48 ≤ d = (digit_from_value d h.0).0 in
    (ne_eqb d 47 (omega arith), NoSlash-digits ds h.1)

NoSlash-decimal : (n : ℕ) → n < 256 → NoSlash (decimal n)
NoSlash-decimal n small = NoSlash-digits _ (decimal_is_IsNumeral n (omega arith)).0.1

NoSlash-dot : NoSlash (codes ".")
unfolding NoSlash
NoSlash-dot = (refl, tt)

NoSlash-dotted : (a b c d : ℕ) → (a < 256) × (b < 256) × (c < 256) × (d < 256) → NoSlash (dotted_text a b c d)
NoSlash-dotted a b c d h =
    let dot = λ (xs : List ℕ) (p : NoSlash xs). NoSlash-append xs (codes ".") p NoSlash-dot in
    let number = λ (xs : List ℕ) (p : NoSlash xs) (n : ℕ) (small : n < 256). NoSlash-append xs (decimal n) p (NoSlash-decimal n small) in
    number _ (dot _ (number _ (dot _ (number _ (dot _ (NoSlash-decimal a h.0)) b h.1)) c h.2)) d h.3

-- where no byte before it is a slash, the slash is the first
first_slash : (xs ys : List ℕ) → NoSlash xs → position_or_len (λ b. b == 47) (xs ++ 47 ∷ ys) ≡ length xs
unfolding NoSlash
first_slash [] ys h = refl
first_slash (x ∷ xs) ys h = rw h.0 (omega (arith, first_slash xs ys h.1))

cut_at-slash : (xs ys : List ℕ) → NoSlash xs → cut_at 47 (xs ++ 47 ∷ ys) ≡ Some (xs, ys)
cut_at-slash xs ys h =
    let at = first_slash xs ys h in
    let more : length xs < length (xs ++ 47 ∷ ys) = omega (arith, length-append xs (47 ∷ ys)) in
    let after : drop (length xs + 1) (xs ++ 47 ∷ ys) ≡ ys =
    ap (drop (length xs + 1)) (sym (append_assoc xs (47 ∷ []) ys)) ∙ drop_at (xs ++ 47 ∷ []) ys (length xs + 1) (length-append xs (47 ∷ [])) in
    rw (at, lt-ltb _ _ more, take_at xs (47 ∷ ys) (length xs) refl, after) refl

-- what was cut at a slash
cut_at-joined : (text xs ys : List ℕ) → cut_at 47 text ≡ Some (xs, ys) → text ≡ xs ++ 47 ∷ ys
cut_at-joined text xs ys e =
    map_some _ (position (λ b. b == 47) text) (xs, ys) e λ place place_is parts.
    let (within, at_place, _) = position-Some (λ b. b == 47) text place 0 place_is in
    let front : take place text ≡ xs = ap (λ p. p.0) parts in
    let back : drop (place + 1) text ≡ ys = ap (λ p. p.1) parts in
    let slash : get_or text place 0 ≡ 47 = eqb-true _ _ at_place in
    let split : drop place text ≡ get_or text place 0 ∷ drop (place + 1) text = rw add-one (drop-cons text place 0 within) in
    sym (take-append-drop place text) ∙ rw (split, slash, front, back) refl

prefix_text-slash : (p : Prefix) → prefix_text p ≡ address_text p.addr ++ 47 ∷ decimal p.len
prefix_text-slash p = append_assoc (address_text p.addr) (47 ∷ []) (decimal p.len)

-- the text of a prefix is cut at its slash
pub prefix_cut : (p : Prefix) → cut_at 47 (prefix_text p) ≡ Some (address_text p.addr, decimal p.len)
prefix_cut p =
    let dotted = IsDotted-address_text p.addr p.in_range in
    let slashless : NoSlash (address_text p.addr) = subst NoSlash (sym dotted.spelled) (NoSlash-dotted dotted.a dotted.b dotted.c dotted.d dotted.fit) in
    ap (cut_at 47) (prefix_text-slash p) ∙ cut_at-slash (address_text p.addr) (decimal p.len) slashless

-- the text of a prefix is read as it
read_back : (p : Prefix) → prefix_of (prefix_text p) ≡ Some p
read_back p =
    let len : p.len ≤ 32 = p.length in
    parts_read (prefix_text p) _ _ p.addr p.len (prefix_cut p) (address_of-address_text p.addr p.in_range) (number_of-decimal p.len (omega arith)) ∙ prefix_at-parts p

-- what is read as a prefix is its text
spelled : (text : List ℕ) (p : Prefix) → prefix_of text ≡ Some p → text ≡ prefix_text p
spelled text p e =
    and_then_some _ (cut_at 47 text) p e λ parts cut e₁.
    and_then_some _ (address_of parts.0) p e₁ λ addr addr_is e₂.
    and_then_some _ (number_of parts.1) p e₂ λ len len_is e₃.
    let (at_addr, at_len) = prefix_at-some addr len p e₃ in
    let (octets, dotted, value) = address_of-some parts.0 addr addr_is in
    let (_, digits) = number_of-some parts.1 len len_is in
    let front : parts.0 ≡ address_text p.addr = address_text-dotted parts.0 octets dotted ∙ ap address_text (value ∙ sym at_addr) in
    let back : parts.1 ≡ decimal p.len = digits ∙ ap decimal (sym at_len) in
    cut_at-joined text parts.0 parts.1 cut ∙ ap (λ t. t ++ 47 ∷ parts.1) front ∙ ap (λ t. address_text p.addr ++ 47 ∷ t) back ∙ sym (prefix_text-slash p)

-- a text is read as a prefix exactly where it is that prefix's text
pub exact : PrefixTextsAreExact
exact text p = (spelled text p, λ e. ap prefix_of e ∙ read_back p)
