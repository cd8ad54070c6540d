-- The parts of a line, as they are written and read: counts, links and addresses.
use Rattle.std.proofs.Common.{◌≡◌, ℕ, ◌+◌, ◌-◌, ◌^◌, ◌<◌, ◌≤◌, ◌&&◌, nat_le, true, if◌then◌else◌, List, [], ◌∷◌}
use Rattle.std.proofs.Common.{refl, ap, ap₂, sym, subst, ◌∙◌, arith, le-leb, All, Some, None, option_and_then, decimal}
use Rattle.std.specs.Int.{w32, from_be_bytes}
use Rattle.std.proofs.lemmas.Bool.{and_from, and_parts, leb-true, cond-true}
use Rattle.std.proofs.lemmas.Option.{same_Some}
use Rattle.std.proofs.lemmas.List.Elements.{All-nil, All-cons, All-head, All-tail}
use Rattle.std.proofs.NetLemmas.Options.{and_then_some, cond_some}
use Rattle.arc_base.specs.declared.place.Link.{Link}
use Rattle.arc_base.specs.PrefixText.{address_of, address_text, number_of}
use Rattle.arc_base.proofs.AddressTexts.{address_of-some, address_text-dotted}
use Rattle.arc_base.proofs.NumberTexts.{number_of-some, number_of-decimal}
use Rattle.policy_report.specs.Readings.{count_of, link_of, all_links}
use Rattle.policy_report.specs.Reports.{link_words}

-- a count of 32 bits
pub count_read : (n : ℕ) → n ≤ 4294967295 → count_of (decimal n) ≡ Some n
count_read n small =
    ap (option_and_then (λ (number : ℕ). if nat_le number 4294967295 then Some number else None)) (number_of-decimal n (omega arith)) ∙
    cond-true (nat_le n 4294967295) (Some n) None (le-leb n 4294967295 small)

-- a word that is read as a count is written so
pub count_told : (w : List ℕ) (n : ℕ) → count_of w ≡ Some n → (w ≡ decimal n) × (n ≤ 4294967295)
count_told w n e =
    and_then_some _ (number_of w) n e λ number number_is kept.
    let (small, same) = cond_some _ _ _ kept in
    ((number_of-some w number number_is).1 ∙ ap decimal same, subst (λ (m : ℕ). m ≤ 4294967295) same (leb-true _ _ small))

link_at : ℕ → Link
link_at k = record { 0 = k }

-- a link by its number, of n links
pub link_read : (n : ℕ) (l : Link) → n ≤ 1024 → l.0 < n → link_of n (decimal (l.0 + 1)) ≡ Some l
unfolding link_at
link_read n l few within =
    let place : l.0 + 1 - 1 ≡ l.0 = omega arith in
    let test : (nat_le 1 (l.0 + 1) && nat_le (l.0 + 1) n) ≡ true = and_from _ _ (le-leb 1 (l.0 + 1) (omega arith)) (le-leb (l.0 + 1) n (omega arith)) in
    ap (option_and_then (λ (number : ℕ). if nat_le 1 number && nat_le number n then Some (link_at (number - 1)) else None)) (count_read (l.0 + 1) (omega arith)) ∙
    cond-true _ (Some (link_at (l.0 + 1 - 1))) None test ∙ ap (λ k. Some (link_at k)) place

-- a word that is read as a link is its number
pub link_told : (n : ℕ) (w : List ℕ) (l : Link) → link_of n w ≡ Some l → (w ≡ decimal (l.0 + 1)) × (l.0 < n)
unfolding link_at
link_told n w l e =
    and_then_some _ (count_of w) l e λ number number_is kept.
    let (test, same) = cond_some _ (link_at (number - 1)) l kept in
    let (some, within) = and_parts _ _ test in
    let low : 1 ≤ number = leb-true _ _ some in
    let high : number ≤ n = leb-true _ _ within in
    let place : number - 1 ≡ l.0 = ap (λ (m : Link). m.0) same in
    let number_back : number ≡ l.0 + 1 = omega arith in
    ((count_told w number number_is).0 ∙ ap decimal number_back, omega arith)

-- several links
pub links_read : (n : ℕ) (links : List Link) → n ≤ 1024 → All (λ l. l.0 < n) links → all_links n (link_words links) ≡ Some links
links_read n [] few h = refl
links_read n (l ∷ links) few h =
    let here = link_read n l few (All-head (λ l. l.0 < n) l links h) in
    let rest = links_read n links few (All-tail (λ l. l.0 < n) l links h) in
    ap (option_and_then (λ link. option_and_then (λ rest. Some (link ∷ rest)) (all_links n (link_words links)))) here ∙ ap (option_and_then (λ rest. Some (l ∷ rest))) rest

pub links_told : (n : ℕ) (ws : List (List ℕ)) (links : List Link) → all_links n ws ≡ Some links → (ws ≡ link_words links) × All (λ l. l.0 < n) links
links_told n [] links e =
    let same : [] ≡ links = same_Some _ _ e in
    (ap link_words same, subst (λ (ls : List Link). All (λ l. l.0 < n) ls) same (All-nil (λ l. l.0 < n)))
links_told n (w ∷ ws) links e =
    and_then_some _ (link_of n w) links e λ link link_is e₁.
    and_then_some _ (all_links n ws) links e₁ λ rest rest_is e₂.
    let same : (link ∷ rest) ≡ links = same_Some _ _ e₂ in
    let (here, within) = link_told n w link link_is in
    let (told, all) = links_told n ws rest rest_is in
    (ap₂ (λ v vs. v ∷ vs) here told ∙ ap link_words same, subst (λ (ls : List Link). All (λ l. l.0 < n) ls) same (All-cons (λ l. l.0 < n) link rest within all))

-- an address of 32 bits
four_bytes : (a b c d : ℕ) → (a < 256) × (b < 256) × (c < 256) × (d < 256) → from_be_bytes w32 (a ∷ b ∷ c ∷ d ∷ []) < 2 ^ 32
four_bytes a b c d h = omega (arith, h.0, h.1, h.2, h.3)

pub address_told : (text : List ℕ) (addr : ℕ) → address_of text ≡ Some addr → (text ≡ address_text addr) × (addr < 2 ^ 32)
address_told text addr e =
    let (octets, dotted, value) = address_of-some text addr e in
    let small : from_be_bytes w32 octets < 2 ^ 32 =
    subst (λ (o : List ℕ). from_be_bytes w32 o < 2 ^ 32) (sym dotted.value) (four_bytes dotted.a dotted.b dotted.c dotted.d dotted.fit) in
    (address_text-dotted text octets dotted ∙ ap address_text value, subst (λ (a : ℕ). a < 2 ^ 32) value small)
