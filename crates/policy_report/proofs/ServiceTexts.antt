-- Which services a word names.
use Rattle.std.proofs.Common.{◌≡◌, ◌≢◌, ℕ, ◌+◌, ◌*◌, ◌/◌, ◌%◌, ◌^◌, ◌<◌, ◌≤◌, ◌==◌, ◌&&◌, nat_le, Bool, true, false, cond, if◌then◌else◌, List, [], ◌∷◌}
use Rattle.std.proofs.Common.{◌++◌, Option, Some, None, option_and_then, decimal, codes, bytes_eq, IsTrue, refl, sym, ap, ap₂, subst, ◌∙◌, arith, append_assoc, le-leb, eq-eqb, ne_eqb}
use Rattle.std.proofs.Math.Nat.{mod-add-div'}
use Rattle.std.proofs.lemmas.Bool.{and_from, and_parts, cond-true, cond-false, leb-true, false≢true}
use Rattle.std.proofs.lemmas.Bool.Decides.{nat_tests}
use Rattle.std.proofs.lemmas.List.Elements.{All-append, All-weaker, All-from_recursion}
use Rattle.std.proofs.lemmas.Option.{none-some, same_Some}
use Rattle.std.proofs.lemmas.Slice.Eq.{bytes_eq-Decides}
use Rattle.std.proofs.NetLemmas.Options.{and_then_some, cond_some}
use Rattle.arc_base.specs.Cuts.{cut_at}
use Rattle.arc_base.specs.PrefixText.{number_of}
use Rattle.arc_base.proofs.NumberTexts.{number_of-some, number_of-decimal}
use Rattle.net_model.specs.declared.services.Service.{Service}
use Rattle.net_model.specs.Services.{whole_service}
use Rattle.arc_base.specs.NameForms.{IsName, is_name_byte}
use Rattle.policy_report.specs.ServiceWords.{service_text, service_word, range_word, is_whole, service_of, range_from}
use Rattle.policy_report.specs.ServiceWords.{after_colon, service_named, range_named, ServiceWordsAreExact, RangeWordsAreExact, NamesAreNoServices}
use Rattle.policy_report.proofs.SameServices.{whole_is, range_back, range_ends}
use Rattle.policy_report.proofs.Separators.{Lacks, written, decimal_lacks, joined_cut, no_cut, cut_joined}

-- a service's protocol and port, and the service of them
pub protocol_small : (n : ℕ) → n < 2 ^ 24 → n / 65536 ≤ 255
protocol_small n small = omega (arith, mod-add-div' n 65536)

pub port_small : (n : ℕ) → n % 65536 ≤ 65535
port_small n = omega arith

parts_back : (n : ℕ) → n / 65536 * 65536 + n % 65536 ≡ n
parts_back n = omega (arith, mod-add-div' n 65536)

protocol_is : (protocol port : ℕ) → port ≤ 65535 → (protocol * 65536 + port) / 65536 ≡ protocol
protocol_is protocol port small = omega (arith, mod-add-div' (protocol * 65536 + port) 65536)

port_is : (protocol port : ℕ) → port ≤ 65535 → (protocol * 65536 + port) % 65536 ≡ port
port_is protocol port small = omega (arith, protocol_is protocol port small, mod-add-div' (protocol * 65536 + port) 65536)

-- a service's text is cut at its dot, and has no dash
text_dot : (n : ℕ) → service_text n ≡ decimal (n / 65536) ++ 46 ∷ decimal (n % 65536)
text_dot n = append_assoc (decimal (n / 65536)) (46 ∷ []) (decimal (n % 65536))

text_lacks_dash : (n : ℕ) → n < 2 ^ 24 → Lacks 45 (service_text n)
text_lacks_dash n small =
    let digits = λ (m : ℕ) (few : m < 2 ^ 64). decimal_lacks 45 m (λ b low high e. omega arith) few in
    let p : n / 65536 ≤ 255 = protocol_small n small in
    let q : n % 65536 ≤ 65535 = port_small n in
    All-append (λ b. (b == 45) ≡ false) (decimal (n / 65536) ++ codes ".") (decimal (n % 65536))
    (All-append (λ b. (b == 45) ≡ false) (decimal (n / 65536)) (codes ".") (digits (n / 65536) (omega arith)) (written 45 (codes ".") refl))
    (digits (n % 65536) (omega arith))

-- a service's text is read as it
pub service_read : (n : ℕ) → n < 2 ^ 24 → service_of (service_text n) ≡ Some n
service_read n small =
    let p : n / 65536 ≤ 255 = protocol_small n small in
    let q : n % 65536 ≤ 65535 = port_small n in
    let f : ℕ → ℕ → Option ℕ = λ protocol port. if nat_le protocol 255 && nat_le port 65535 then Some (protocol * 65536 + port) else None in
    let g : List ℕ × List ℕ → Option ℕ = λ parts. option_and_then (λ protocol. option_and_then (f protocol) (number_of parts.1)) (number_of parts.0) in
    let cut : cut_at 46 (service_text n) ≡ Some (decimal (n / 65536), decimal (n % 65536)) =
    ap (cut_at 46) (text_dot n) ∙ joined_cut 46 (decimal (n / 65536)) (decimal (n % 65536)) (decimal_lacks 46 (n / 65536) (λ b low high e. omega arith) (omega arith)) in
    ap (option_and_then g) cut ∙
    ap (option_and_then (λ protocol. option_and_then (f protocol) (number_of (decimal (n % 65536))))) (number_of-decimal (n / 65536) (omega arith)) ∙
    ap (option_and_then (f (n / 65536))) (number_of-decimal (n % 65536) (omega arith)) ∙
    cond-true (nat_le (n / 65536) 255 && nat_le (n % 65536) 65535) (Some (n / 65536 * 65536 + n % 65536)) None (and_from _ _ (le-leb _ _ p) (le-leb _ _ q)) ∙
    ap Some (parts_back n)

-- what is read as a service is its text
pub service_told : (text : List ℕ) (n : ℕ) → service_of text ≡ Some n → (text ≡ service_text n) × (n < 2 ^ 24)
service_told text n e =
    and_then_some _ (cut_at 46 text) n e λ parts cut e₁.
    and_then_some _ (number_of parts.0) n e₁ λ protocol protocol_read e₂.
    and_then_some _ (number_of parts.1) n e₂ λ port port_read e₃.
    let (test, same) = cond_some _ (protocol * 65536 + port) n e₃ in
    let (few, low) = and_parts _ _ test in
    let p : protocol ≤ 255 = leb-true _ _ few in
    let q : port ≤ 65535 = leb-true _ _ low in
    let first : parts.0 ≡ decimal (n / 65536) =
    (number_of-some parts.0 protocol protocol_read).1 ∙ ap decimal (sym (protocol_is protocol port q) ∙ ap (λ m. m / 65536) same) in
    let second : parts.1 ≡ decimal (n % 65536) =
    (number_of-some parts.1 port port_read).1 ∙ ap decimal (sym (port_is protocol port q) ∙ ap (λ m. m % 65536) same) in
    (cut_joined 46 text parts.0 parts.1 cut ∙ ap₂ (λ u v. u ++ 46 ∷ v) first second ∙ sym (text_dot n), omega arith)

-- what a word says after `service:`
colon_read : (text : List ℕ) → after_colon (codes "service:" ++ text) ≡ Some text
colon_read text =
    let f : List ℕ × List ℕ → Option (List ℕ) = λ parts. if bytes_eq parts.0 (codes "service") then Some parts.1 else None in
    ap (option_and_then f) (joined_cut 58 (codes "service") text (written 58 (codes "service") refl))

colon_told : (word text : List ℕ) → after_colon word ≡ Some text → word ≡ codes "service:" ++ text
colon_told word text e =
    and_then_some _ (cut_at 58 word) text e λ parts cut e₁.
    let (test, same) = cond_some _ parts.1 text e₁ in
    cut_joined 58 word parts.0 parts.1 cut ∙ ap₂ (λ u v. u ++ 58 ∷ v) ((bytes_eq-Decides parts.0 (codes "service")).0 test) same

-- a value that a test did not refuse
pub kept : {A : Type 0} (b : Bool) (o : Option A) (y : A) → cond b None o ≡ Some y → (b ≡ false) × (o ≡ Some y)
kept true o y e = absurd (none-some y e)
kept false o y e = (refl, e)

-- a packet's service
pub service_word_read : (n : ℕ) → n < 2 ^ 24 → (n == 0) ≡ false → service_named (service_word n) ≡ Some n
service_word_read n small some =
    let f : ℕ → Option ℕ = λ service. if service == 0 then None else Some service in
    ap (option_and_then (λ text. option_and_then f (service_of text))) (colon_read (service_text n)) ∙
    ap (option_and_then f) (service_read n small) ∙ cond-false (n == 0) None (Some n) some

pub service_word_told : (word : List ℕ) (n : ℕ) → service_named word ≡ Some n → (word ≡ service_word n) × (n < 2 ^ 24) × ((n == 0) ≡ false)
service_word_told word n e =
    and_then_some _ (after_colon word) n e λ text text_is e₁.
    and_then_some _ (service_of text) n e₁ λ service service_is e₂.
    let (some, same) = kept (service == 0) (Some service) n e₂ in
    let is : service ≡ n = same_Some service n same in
    let (told, small) = service_told text service service_is in (
      colon_told word text text_is ∙ ap (λ t. codes "service:" ++ t) (told ∙ ap service_text is),
      subst (λ (m : ℕ). m < 2 ^ 24) is small,
      subst (λ (m : ℕ). (m == 0) ≡ false) is some,
    )

-- a range of services
ends_text : Service → List ℕ
ends_text s = service_text s.low ++ 45 ∷ service_text s.high

word_ends : (s : Service) → range_word s ≡ codes "service:" ++ ends_text s
unfolding ends_text
word_ends s = ap (λ t. codes "service:" ++ t) (append_assoc (service_text s.low) (45 ∷ []) (service_text s.high))

pub range_read : (s : Service) → is_whole s ≡ false → range_named (range_word s) ≡ Some s
unfolding ends_text
range_read s part =
    let high_small : s.high < 2 ^ 24 = s.in_range in
    let ordered : s.low ≤ s.high = s.ordered in
    let low_small : s.low < 2 ^ 24 = omega arith in
    let f : Service → Option Service = λ range. if is_whole range then None else Some range in
    let g : ℕ → ℕ → Option Service = λ low high. option_and_then f (range_from low high) in
    let h : List ℕ × List ℕ → Option Service = λ ends. option_and_then (λ low. option_and_then (g low) (service_of ends.1)) (service_of ends.0) in
    ap range_named (word_ends s) ∙
    ap (option_and_then (λ text. option_and_then h (cut_at 45 text))) (colon_read (ends_text s)) ∙
    ap (option_and_then h) (joined_cut 45 (service_text s.low) (service_text s.high) (text_lacks_dash s.low low_small)) ∙
    ap (option_and_then (λ low. option_and_then (g low) (service_of (service_text s.high)))) (service_read s.low low_small) ∙
    ap (option_and_then (g s.low)) (service_read s.high high_small) ∙
    ap (option_and_then f) (range_back s) ∙ cond-false (is_whole s) None (Some s) part

pub range_told : (word : List ℕ) (s : Service) → range_named word ≡ Some s → (word ≡ range_word s) × (is_whole s ≡ false)
unfolding ends_text
range_told word s e =
    and_then_some _ (after_colon word) s e λ text text_is e₁.
    and_then_some _ (cut_at 45 text) s e₁ λ ends cut e₂.
    and_then_some _ (service_of ends.0) s e₂ λ low low_is e₃.
    and_then_some _ (service_of ends.1) s e₃ λ high high_is e₄.
    and_then_some _ (range_from low high) s e₄ λ range range_is e₅.
    let (part, same) = kept (is_whole range) (Some range) s e₅ in
    let is : range ≡ s = same_Some range s same in
    let (at_low, at_high) = range_ends low high range range_is in
    let first : ends.0 ≡ service_text s.low = (service_told ends.0 low low_is).0 ∙ ap service_text (sym at_low ∙ ap (λ (r : Service). r.low) is) in
    let second : ends.1 ≡ service_text s.high = (service_told ends.1 high high_is).0 ∙ ap service_text (sym at_high ∙ ap (λ (r : Service). r.high) is) in (
      colon_told word text text_is ∙ ap (λ t. codes "service:" ++ t) (cut_joined 45 text ends.0 ends.1 cut ∙ ap₂ (λ u v. u ++ 45 ∷ v) first second) ∙ sym (word_ends s),
      subst (λ (r : Service). is_whole r ≡ false) is part,
    )

-- a word without a colon names no services
no_after_colon : (word : List ℕ) → Lacks 58 word → after_colon word ≡ None
no_after_colon word h =
    let f : List ℕ × List ℕ → Option (List ℕ) = λ parts. if bytes_eq parts.0 (codes "service") then Some parts.1 else None in
    ap (option_and_then f) (no_cut 58 word h)

pub no_range : (word : List ℕ) → Lacks 58 word → range_named word ≡ None
no_range word h =
    let f : ℕ → ℕ → Option Service = λ low high. option_and_then (λ range. if is_whole range then None else Some range) (range_from low high) in
    let g : List ℕ × List ℕ → Option Service = λ ends. option_and_then (λ low. option_and_then (f low) (service_of ends.1)) (service_of ends.0) in
    ap (option_and_then (λ text. option_and_then g (cut_at 45 text))) (no_after_colon word h)

pub no_service : (word : List ℕ) → Lacks 58 word → service_named word ≡ None
no_service word h =
    let f : ℕ → Option ℕ = λ service. if service == 0 then None else Some service in
    ap (option_and_then (λ text. option_and_then f (service_of text))) (no_after_colon word h)

no_colon_byte : (b : ℕ) → IsTrue (is_name_byte b) → b ≡ 58 → ⊥
no_colon_byte b h e = grind (arith, nat_tests)

-- no name has a colon, and no number
pub name_lacks : (name : List ℕ) → IsName name → Lacks 58 name
name_lacks name h =
    All-weaker (λ b. IsTrue (is_name_byte b)) (λ b. (b == 58) ≡ false) (λ b k. ne_eqb b 58 (no_colon_byte b k)) name
    (All-from_recursion (λ b. IsTrue (is_name_byte b)) name h.bytes)

pub number_lacks : (n : ℕ) → n < 2 ^ 64 → Lacks 58 (decimal n)
number_lacks n few = decimal_lacks 58 n (λ b low high e. omega arith) few

-- the laws
whole_part : (s : Service) → s ≢ whole_service → is_whole s ≡ false
whole_part s part = by (is_whole s) refl
  where
    by : (b : Bool) → is_whole s ≡ b → b ≡ false
    by true e = absurd (part (whole_is s e))
    by false e = refl

pub service_words_are_exact : ServiceWordsAreExact
service_words_are_exact word n = (
  λ e. let (told, small, some) = service_word_told word n e in (told, small, λ zero_is. false≢true (sym some ∙ eq-eqb n 0 zero_is)),
  λ h. ap service_named h.0 ∙ service_word_read n h.1 (ne_eqb n 0 h.2),
)

pub range_words_are_exact : RangeWordsAreExact
range_words_are_exact word s = (
  λ e. let (told, part) = range_told word s e in (told, λ whole. false≢true (sym part ∙ ap is_whole whole)),
  λ h. ap range_named h.0 ∙ range_read s (whole_part s h.1),
)

pub names_are_no_services : NamesAreNoServices
names_are_no_services name h = (no_range name (name_lacks name h), no_service name (name_lacks name h))
