-- No word that a report writes has a space or a control byte in it.
use Rattle.std.proofs.Common.{◌≡◌, ℕ, ◌^◌, ◌<◌, ◌≤◌, ◌+◌, Bool, true, false, ◌&&◌, nat_lt, List, [], ◌∷◌, ◌++◌, refl, sym, subst, arith, All, decimal, codes, IsTrue}
use Rattle.std.proofs.lemmas.Bool.{and_parts, ltb-true}
use Rattle.std.proofs.lemmas.Bool.Decides.{nat_tests}
use Rattle.std.proofs.lemmas.Fmt.{decimal_is_IsNumeral}
use Rattle.std.proofs.lemmas.List.Elements.{All-nil, All-cons, All-append, All-weaker, All-head, All-tail, All-from_get_or, All-from_recursion}
use Rattle.std.proofs.lemmas.Str.Parse.{digit_at}
use Rattle.std.specs.Net.Text.{dotted_text}
use Rattle.arc_base.specs.declared.place.Link.{Link}
use Rattle.arc_base.specs.declared.prefix.Prefix.{Prefix}
use Rattle.arc_base.specs.PrefixText.{address_text, prefix_text}
use Rattle.arc_base.proofs.AddressTexts.{IsDotted-address_text}
use Rattle.arc_base.specs.NameForms.{IsName, is_name_byte}
use Rattle.net_model.specs.declared.rows.RouterRow.{RouterRow}
use Rattle.policy_report.specs.Reports.{link_words, router_side_words}
use Rattle.policy_report.proofs.Spaced.{IsWord, AreWords}

-- a test of the bytes of a word that is written out
abbrev pub is_word : List ℕ → Bool
is_word [] = true
is_word (b ∷ bytes) = nat_lt 32 b && is_word bytes

pub word : (w : List ℕ) → is_word w ≡ true → IsWord w
unfolding IsWord
word [] e = All-nil (λ b. 32 < b)
word (b ∷ bytes) e =
    let (above, rest) = and_parts _ _ e in
    All-cons (λ b. 32 < b) b bytes (ltb-true 32 b above) (word bytes rest)

pub joined_words : (v w : List ℕ) → IsWord v → IsWord w → IsWord (v ++ w)
unfolding IsWord
joined_words v w h k = All-append (λ b. 32 < b) v w h k

pub decimal_word : (n : ℕ) → n < 2 ^ 64 → IsWord (decimal n)
unfolding IsWord
decimal_word n fits =
    let numeral = (decimal_is_IsNumeral n fits).0 in
    All-from_get_or (λ b. 32 < b) (decimal n) 0 (λ i within. let at = digit_at (decimal n) i numeral.1 within in omega (arith, at))

dotted_word : (a b c d : ℕ) → (a < 256) × (b < 256) × (c < 256) × (d < 256) → IsWord (dotted_text a b c d)
dotted_word a b c d h =
    let dot = λ (w : List ℕ) (k : IsWord w). joined_words w (codes ".") k (word (codes ".") refl) in
    let number = λ (w : List ℕ) (k : IsWord w) (n : ℕ) (small : n < 256). joined_words w (decimal n) k (decimal_word n (omega arith)) in
    number _ (dot _ (number _ (dot _ (number _ (dot _ (decimal_word a (omega (arith, h.0)))) b h.1)) c h.2)) d h.3

pub address_word : (addr : ℕ) → addr < 2 ^ 32 → IsWord (address_text addr)
address_word addr small =
    let dotted = IsDotted-address_text addr small in
    subst IsWord (sym dotted.spelled) (dotted_word dotted.a dotted.b dotted.c dotted.d dotted.fit)

pub prefix_word : (p : Prefix) → IsWord (prefix_text p)
prefix_word p =
    let len : p.len ≤ 32 = p.length in
    joined_words _ (decimal p.len) (joined_words _ (codes "/") (address_word p.addr p.in_range) (word (codes "/") refl)) (decimal_word p.len (omega arith))

name_byte : (b : ℕ) → IsTrue (is_name_byte b) → 32 < b
name_byte b h = grind (arith, nat_tests)

pub name_word : (name : List ℕ) → IsName name → IsWord name
unfolding IsWord
name_word name h = All-weaker (λ b. IsTrue (is_name_byte b)) (λ b. 32 < b) name_byte name (All-from_recursion (λ b. IsTrue (is_name_byte b)) name h.bytes)

pub links_words : (n : ℕ) (links : List Link) → n ≤ 1024 → All (λ l. l.0 < n) links → AreWords (link_words links)
links_words n [] few h = tt
links_words n (l ∷ links) few h =
    let within = All-head (λ l. l.0 < n) l links h in
    (decimal_word (l.0 + 1) (omega arith), links_words n links few (All-tail (λ l. l.0 < n) l links h))

pub sides_words : (routers : List RouterRow) (side : List Bool) → All (λ r. IsName r.name) routers → AreWords (router_side_words routers side)
sides_words [] side h = tt
sides_words (r ∷ routers) [] h = tt
sides_words (r ∷ routers) (true ∷ side) h =
    (name_word r.name (All-head (λ s. IsName s.name) r routers h), sides_words routers side (All-tail (λ s. IsName s.name) r routers h))
sides_words (r ∷ routers) (false ∷ side) h = sides_words routers side (All-tail (λ s. IsName s.name) r routers h)
