-- Classes and packets with their services, as words of a line: what is written is read back, what is
-- read is written so, and no word of them has a space or a control byte in it.
use Rattle.std.proofs.Common.{◌≡◌, ℕ, ◌+◌, ◌/◌, ◌%◌, ◌^◌, ◌<◌, ◌≤◌, ◌==◌, Bool, true, false, if◌then◌else◌, List, [], ◌∷◌}
use Rattle.std.proofs.Common.{◌++◌, Option, Some, None, option_and_then, refl, sym, ap, ap₂, subst, ◌∙◌, arith, All, append-nil, codes, decimal}
use Rattle.std.specs.Option.{option_map_or}
use Rattle.std.proofs.lemmas.Bool.{eqb-true}
use Rattle.std.proofs.lemmas.List.Elements.{All-head, All-tail}
use Rattle.std.proofs.lemmas.Option.{none-some, same_Some}
use Rattle.std.proofs.NetLemmas.Options.{and_then_some}
use Rattle.arc_base.specs.declared.place.Link.{Link}
use Rattle.arc_base.specs.declared.prefix.Prefix.{Prefix}
use Rattle.arc_base.specs.PrefixText.{address_of, address_text, prefix_of, prefix_text}
use Rattle.arc_base.proofs.AddressTexts.{address_of-address_text}
use Rattle.arc_base.proofs.PrefixTexts.{exact}
use Rattle.net_model.specs.declared.lists.Packet.{Packet}
use Rattle.net_model.specs.declared.policies.Class.{Class}
use Rattle.net_model.specs.declared.rows.RouterRow.{RouterRow}
use Rattle.net_model.specs.declared.services.Service.{Service}
use Rattle.net_model.specs.Services.{whole_service}
use Rattle.arc_base.specs.NameForms.{IsName}
use Rattle.policy_report.specs.Readings.{services_at, class_at, service_at, packet_at}
use Rattle.policy_report.specs.Reports.{class_words, report_packet_words, link_words, router_side_words}
use Rattle.policy_report.specs.ServiceWords.{service_text, service_word, range_word, is_whole, service_words, range_words, service_named, range_named}
use Rattle.policy_report.proofs.Parts.{address_told}
use Rattle.policy_report.proofs.SameServices.{whole_is}
use Rattle.policy_report.proofs.ServiceTexts.{protocol_small, port_small, range_read, range_told, service_word_read, service_word_told, no_range, name_lacks, number_lacks}
use Rattle.policy_report.proofs.Spaced.{IsWord, AreWords}
use Rattle.policy_report.proofs.WordBytes.{word, joined_words, decimal_word, address_word, prefix_word}

-- neither a space nor a control byte stands in them
service_text_word : (n : ℕ) → n < 2 ^ 24 → IsWord (service_text n)
service_text_word n small =
    let p : n / 65536 ≤ 255 = protocol_small n small in
    let q : n % 65536 ≤ 65535 = port_small n in
    joined_words _ (decimal (n % 65536)) (joined_words _ (codes ".") (decimal_word (n / 65536) (omega arith)) (word (codes ".") refl)) (decimal_word (n % 65536) (omega arith))

pub are_service_words : (n : ℕ) → n < 2 ^ 24 → AreWords (service_words n)
are_service_words n small = by (n == 0)
  where
    by : (b : Bool) → AreWords (if b then [] else service_word n ∷ [])
    by true = tt
    by false = (joined_words (codes "service:") (service_text n) (word (codes "service:") refl) (service_text_word n small), tt)

pub are_range_words : (s : Service) → AreWords (range_words s)
are_range_words s = by (is_whole s)
  where
    by : (b : Bool) → AreWords (if b then [] else range_word s ∷ [])
    by true = tt
    by false =
        let high : s.high < 2 ^ 24 = s.in_range in
        let ordered : s.low ≤ s.high = s.ordered in (
          joined_words _ (service_text s.high)
              (joined_words _ (codes "-") (joined_words (codes "service:") (service_text s.low) (word (codes "service:") refl) (service_text_word s.low (omega arith))) (word (codes "-") refl))
              (service_text_word s.high high),
          tt,
        )

pub are_class_words : (class : Class) → AreWords (class_words class)
are_class_words class = (prefix_word class.from, (prefix_word class.to, are_range_words class.service))

pub are_packet_words : (packet : Packet) → packet.from < 2 ^ 32 → packet.to < 2 ^ 32 → packet.service < 2 ^ 24 → AreWords (report_packet_words packet)
are_packet_words packet from to service = (address_word packet.from from, (address_word packet.to to, are_service_words packet.service service))

-- the first of the words, where there is one, names no services
abbrev pub NamesNone : List (List ℕ) → Type 0
NamesNone [] = Unit {0}
NamesNone (w ∷ ws) = range_named w ≡ None

pub links_name_none : (n : ℕ) (links : List Link) → n ≤ 1024 → All (λ l. l.0 < n) links → NamesNone (link_words links)
links_name_none n [] few h = tt
links_name_none n (l ∷ links) few h =
    let within = All-head (λ l. l.0 < n) l links h in
    no_range (decimal (l.0 + 1)) (number_lacks (l.0 + 1) (omega arith))

pub sides_name_none : (routers : List RouterRow) (side : List Bool) → All (λ r. IsName r.name) routers → NamesNone (router_side_words routers side)
sides_name_none [] side h = tt
sides_name_none (r ∷ routers) [] h = tt
sides_name_none (r ∷ routers) (true ∷ side) h = no_range r.name (name_lacks r.name (All-head (λ s. IsName s.name) r routers h))
sides_name_none (r ∷ routers) (false ∷ side) h = sides_name_none routers side (All-tail (λ s. IsName s.name) r routers h)

-- the first of the words names no service of a packet
abbrev pub NamesNoService : List (List ℕ) → Type 0
NamesNoService [] = ⊥
NamesNoService (w ∷ ws) = service_named w ≡ None

-- the services of a class
none_read : (ws : List (List ℕ)) → NamesNone ws → services_at ws ≡ (whole_service, ws)
none_read [] h = refl
none_read (w ∷ ws) h = ap (λ (o : Option Service). option_map_or (λ range. (range, ws)) o (whole_service, w ∷ ws)) h

services_read : (s : Service) (rest : List (List ℕ)) → NamesNone rest → services_at (range_words s ++ rest) ≡ (s, rest)
services_read s rest none = by (is_whole s) refl
  where
    by : (b : Bool) → is_whole s ≡ b → services_at ((if b then [] else range_word s ∷ []) ++ rest) ≡ (s, rest)
    by true e = none_read rest none ∙ ap (λ (t : Service). (t, rest)) (sym (whole_is s e))
    by false e = ap (λ (o : Option Service). option_map_or (λ range. (range, rest)) o (whole_service, range_word s ∷ rest)) (range_read s e)

services_told : (ws : List (List ℕ)) → ws ≡ range_words (services_at ws).0 ++ (services_at ws).1
services_told [] = refl
services_told (w ∷ ws) = by (range_named w) refl
  where
    by : (o : Option Service) → range_named w ≡ o →
        let found : Service × List (List ℕ) = option_map_or (λ range. (range, ws)) o (whole_service, w ∷ ws) in w ∷ ws ≡ range_words found.0 ++ found.1
    by None e = refl
    by (Some s) e =
        let (told, part) = range_told w s e in
        ap (λ v. v ∷ ws) told ∙ ap (λ (b : Bool). (if b then [] else range_word s ∷ []) ++ ws) (sym part)

-- a class, and words after it
pub class_read : (class : Class) (rest : List (List ℕ)) → NamesNone rest → class_at (class_words class ++ rest) ≡ Some (class, rest)
class_read class rest none =
    let from = (exact (prefix_text class.from) class.from).1 refl in
    let to = (exact (prefix_text class.to) class.to).1 refl in
    let whole : Prefix → Prefix → Service × List (List ℕ) → Option (Class × List (List ℕ)) = λ f t r. Some (record { from = f; to = t; service = r.0 }, r.1) in
    let both : Prefix → Prefix → Option (Class × List (List ℕ)) = λ f t. whole f t (services_at (range_words class.service ++ rest)) in
    ap (option_and_then (λ f. option_and_then (both f) (prefix_of (prefix_text class.to)))) from ∙ ap (option_and_then (both class.from)) to ∙
    ap (whole class.from class.to) (services_read class.service rest none)

pub lone_class_read : (class : Class) → class_at (class_words class) ≡ Some (class, [])
lone_class_read class = ap class_at (sym (append-nil (class_words class))) ∙ class_read class [] tt

pub class_told : (ws : List (List ℕ)) (found : Class × List (List ℕ)) → class_at ws ≡ Some found → ws ≡ class_words found.0 ++ found.1
class_told [] found e = absurd (none-some found e)
class_told (a ∷ []) found e = absurd (none-some found e)
class_told (a ∷ b ∷ ws) found e =
    and_then_some _ (prefix_of a) found e λ from from_is e₁.
    and_then_some _ (prefix_of b) found e₁ λ to to_is e₂.
    ap₂ (λ u v. u ∷ v ∷ ws) ((exact a from).0 from_is) ((exact b to).0 to_is) ∙
    ap (λ vs. prefix_text from ∷ prefix_text to ∷ vs) (services_told ws) ∙
    ap (λ (f : Class × List (List ℕ)). class_words f.0 ++ f.1) (same_Some _ found e₂)

-- the service of a packet
one_service_read : (n : ℕ) (w : List ℕ) (ws : List (List ℕ)) → n < 2 ^ 24 → service_named w ≡ None → service_at (service_words n ++ w ∷ ws) ≡ (n, w ∷ ws)
one_service_read n w ws small none = by (n == 0) refl
  where
    by : (b : Bool) → (n == 0) ≡ b → service_at ((if b then [] else service_word n ∷ []) ++ w ∷ ws) ≡ (n, w ∷ ws)
    by true e =
        ap (λ (o : Option ℕ). option_map_or (λ service. (service, ws)) o (0, w ∷ ws)) none ∙ ap (λ (m : ℕ). (m, w ∷ ws)) (sym (eqb-true n 0 e))
    by false e = ap (λ (o : Option ℕ). option_map_or (λ service. (service, w ∷ ws)) o (0, service_word n ∷ w ∷ ws)) (service_word_read n small e)

one_service_told : (ws : List (List ℕ)) → let found : ℕ × List (List ℕ) = service_at ws in (ws ≡ service_words found.0 ++ found.1) × (found.0 < 2 ^ 24)
one_service_told [] = (refl, omega arith)
one_service_told (w ∷ ws) = by (service_named w) refl
  where
    by : (o : Option ℕ) → service_named w ≡ o →
        let found : ℕ × List (List ℕ) = option_map_or (λ service. (service, ws)) o (0, w ∷ ws) in (w ∷ ws ≡ service_words found.0 ++ found.1) × (found.0 < 2 ^ 24)
    by None e = (refl, omega arith)
    by (Some n) e =
        let (told, small, some) = service_word_told w n e in
        (ap (λ v. v ∷ ws) told ∙ ap (λ (b : Bool). (if b then [] else service_word n ∷ []) ++ ws) (sym some), small)

-- a packet, and words after it
pub packet_read : (packet : Packet) (rest : List (List ℕ)) → packet.from < 2 ^ 32 → packet.to < 2 ^ 32 → packet.service < 2 ^ 24 → NamesNoService rest →
    packet_at (report_packet_words packet ++ rest) ≡ Some (packet, rest)
packet_read packet [] from_small to_small small none = absurd none
packet_read packet (w ∷ ws) from_small to_small small none =
    let whole : ℕ → ℕ → ℕ × List (List ℕ) → Option (Packet × List (List ℕ)) = λ f t r. Some (record { from = f; to = t; service = r.0 }, r.1) in
    let both : ℕ → ℕ → Option (Packet × List (List ℕ)) = λ f t. whole f t (service_at (service_words packet.service ++ w ∷ ws)) in
    ap (option_and_then (λ f. option_and_then (both f) (address_of (address_text packet.to)))) (address_of-address_text packet.from from_small) ∙
    ap (option_and_then (both packet.from)) (address_of-address_text packet.to to_small) ∙
    ap (whole packet.from packet.to) (one_service_read packet.service w ws small none)

pub packet_told : (ws : List (List ℕ)) (found : Packet × List (List ℕ)) → packet_at ws ≡ Some found →
    (ws ≡ report_packet_words found.0 ++ found.1) × ((found.0.from < 2 ^ 32) × (found.0.to < 2 ^ 32) × (found.0.service < 2 ^ 24))
packet_told [] found e = absurd (none-some found e)
packet_told (a ∷ []) found e = absurd (none-some found e)
packet_told (a ∷ b ∷ ws) found e =
    and_then_some _ (address_of a) found e λ from from_is e₁.
    and_then_some _ (address_of b) found e₁ λ to to_is e₂.
    let same = same_Some _ found e₂ in
    let (first, from_small) = address_told a from from_is in
    let (second, to_small) = address_told b to to_is in
    let (services, small) = one_service_told ws in (
      ap₂ (λ u v. u ∷ v ∷ ws) first second ∙ ap (λ vs. address_text from ∷ address_text to ∷ vs) services ∙
          ap (λ (f : Packet × List (List ℕ)). report_packet_words f.0 ++ f.1) same,
      subst (λ (f : Packet × List (List ℕ)). (f.0.from < 2 ^ 32) × (f.0.to < 2 ^ 32) × (f.0.service < 2 ^ 24)) same (from_small, to_small, small),
    )
