-- How long the texts of a generated network are, and how many of each there are.
use Rattle.std.proofs.Common.{◌≡◌, ℕ, zero, suc, ◌+◌, ◌-◌, ◌*◌, ◌^◌, ◌<◌, ◌≤◌, Bool, true, false, cond, List, [], ◌∷◌, ◌++◌, length, length-append, ◌∙◌, ap, arith}
use Rattle.std.specs.Prelude.{map, filter, All, codes, decimal, ◌==◌, if◌then◌else◌}
use Rattle.std.specs.List.{flat_map, range_with_len}
use Rattle.std.proofs.lemmas.Fmt.{length-decimal-le}
use Rattle.std.proofs.lemmas.List.FromFn.{length-range_with_len, length-map-range_with_len}
use Rattle.std.proofs.lemmas.List.Elements.{All-cons}
use Rattle.arc_base.specs.PrefixText.{address_text}
use Rattle.ios_words.specs.Numbers.{mask}
use Rattle.ios_words.specs.Prefixes.{whole}
use Rattle.ios_words.specs.Printed.{wildcard_text}
use Rattle.ios_words.proofs.PlainSteps.{mask-small, wildcard-small}
use Rattle.ios_words.proofs.WordSizes.{address-few, top-few, word-more}
use Rattle.net_gen.specs.Plans.{numbers, link_count, a_router, has_end, port}
use Rattle.net_gen.specs.RouterFiles.{host_name, face_name, address, name_line, face_line, address_line, process_line, covers_line}
use Rattle.net_gen.specs.RouterFiles.{face_lines, name_lines, host_lines, link_lines, links_lines, process_lines, router_lines, ended, text_of}
use Rattle.net_gen.specs.Generated.{asked, asked_around, router_texts}
use Rattle.net_gen.proofs.Counted.{text_of-append, file_text}

-- a filter keeps no more than there is
kept_at_most : (b : Bool) (x : ℕ) (xs : List ℕ) → length (cond b (x ∷ xs) xs) ≤ length xs + 1
kept_at_most true x xs = omega arith
kept_at_most false x xs = omega arith

filtered_at_most : (P : ℕ → Bool) (xs : List ℕ) → length (filter P xs) ≤ length xs
filtered_at_most P [] = omega arith
filtered_at_most P (x ∷ xs) = omega (arith, kept_at_most (P x) x (filter P xs), filtered_at_most P xs)

port_at_most : (n router link : ℕ) → port n router link ≤ link
port_at_most n router link = omega (arith, filtered_at_most (has_end n router) (numbers link), length-range_with_len 1 link)

-- a number below 1,000 has at most three digits
pub three_digits : (n : ℕ) → n < 1000 → length (decimal n) ≤ 3
three_digits n few = length-decimal-le 3 n (omega arith) (omega (arith, few)) (omega (arith, few))

pub end_small : (link : ℕ) → link < 256 → (b : Bool) → address 0 link (if b then 1 else 2) < 2 ^ 32
end_small link few true = omega (arith, few)
end_small link few false = omega (arith, few)

-- the lines of an interface are short
address_length : (addr len : ℕ) → addr < 2 ^ 32 → length (address_line addr len) ≤ 43
address_length addr len small =
    let text : List ℕ = address_text addr in
    let ones : List ℕ = address_text (mask len) in
    omega (
      arith,
      word-more (codes "ip") (codes "address" ∷ text ∷ ones ∷ []),
      word-more (codes "address") (text ∷ ones ∷ []),
      word-more text (ones ∷ []),
      word-more ones [],
      address-few addr small,
      address-few (mask len) (mask-small len),
    )

face_length : (number addr len : ℕ) → number < 1000 → addr < 2 ^ 32 → length (text_of (face_lines number addr len)) ≤ 80
face_length number addr len few small =
    let head : List ℕ = face_line number in
    let address : List ℕ = address_line addr len in
    let last : List ℕ = codes "!\n" in
    omega (
      arith,
      three_digits number few,
      address_length addr len small,
      top-few (codes "interface") (face_name number ∷ []),
      word-more (face_name number) [],
      length-append (codes "GigabitEthernet0/") (decimal number),
      length-append head (codes "\n"),
      length-append address (codes "\n"),
      length-append (ended address) last,
      length-append (ended head) (ended address ++ last),
    )

module _ (n router : ℕ) where
  link_length : (link : ℕ) → link < 256 → length (text_of (link_lines n router link)) ≤ 80
  link_length link few =
      face_length (port n router link) (address 0 link (if a_router n link == router then 1 else 2)) 30 (omega (arith, few, port_at_most n router link))
      (end_small link few (a_router n link == router))

  kept_length : (b : Bool) (link : ℕ) (links : List ℕ) → link < 256 →
      length (text_of (flat_map (link_lines n router) (cond b (link ∷ links) links))) ≤ 80 + length (text_of (flat_map (link_lines n router) links))
  kept_length true link links few =
      let rest = flat_map (link_lines n router) links in
      omega (arith, link_length link few, ap length (text_of-append (link_lines n router link) rest), length-append (text_of (link_lines n router link)) (text_of rest))
  kept_length false link links few = omega arith

  links_length : (a k : ℕ) → a + k ≤ 256 → length (text_of (links_lines n router (range_with_len a k))) ≤ 80 * k
  links_length a zero few = omega arith
  links_length a (suc k) few =
      omega (arith, kept_length (has_end n router a) a (filter (has_end n router) (range_with_len (a + 1) k)) (omega (arith, few)), links_length (a + 1) k (omega (arith, few)))

names_length : (router : ℕ) → router < 1000 → length (text_of (name_lines router)) ≤ 16
names_length router few =
    let name : List ℕ = name_line router in
    omega (
      arith,
      three_digits router few,
      top-few (codes "hostname") (host_name router ∷ []),
      word-more (host_name router) [],
      length-append (codes "r") (decimal router),
      length-append name (codes "\n"),
      length-append (ended name) (codes "!\n"),
    )

process_length : length (text_of process_lines) ≤ 100
process_length =
    let first : List ℕ = address_text whole.addr in
    let rest : List ℕ = wildcard_text whole in
    let last : List ℕ = codes "!\nend\n" in
    omega (
      arith,
      top-few (codes "router") (codes "ospf" ∷ decimal 1 ∷ []),
      word-more (codes "ospf") (decimal 1 ∷ []),
      word-more (decimal 1) [],
      three_digits 1 (omega arith),
      word-more (codes "network") (first ∷ rest ∷ codes "area" ∷ decimal 0 ∷ []),
      word-more first (rest ∷ codes "area" ∷ decimal 0 ∷ []),
      word-more rest (codes "area" ∷ decimal 0 ∷ []),
      word-more (codes "area") (decimal 0 ∷ []),
      word-more (decimal 0) [],
      three_digits 0 (omega arith),
      address-few whole.addr whole.in_range,
      address-few (2 ^ (32 - whole.len) - 1) (wildcard-small whole.len),
      length-append process_line (codes "\n"),
      length-append covers_line (codes "\n"),
      length-append (ended covers_line) last,
      length-append (ended process_line) (ended covers_line ++ last),
    )

text_short : (n router : ℕ) → n ≤ 40 → router < 256 → length (text_of (router_lines n router)) ≤ 8192
text_short n router few few_router =
    let names : List ℕ = text_of (name_lines router) in
    let host : List ℕ = text_of (host_lines router) in
    let links : List ℕ = text_of (links_lines n router (numbers (link_count n))) in
    let process : List ℕ = text_of process_lines in
    omega (
      arith,
      few,
      names_length router (omega (arith, few_router)),
      face_length 0 (address router 0 1) 24 (omega arith) (omega (arith, few_router)),
      links_length n router 1 (link_count n) (omega (arith, few)),
      ap length (file_text n router),
      process_length,
      length-append links process,
      length-append host (links ++ process),
      length-append names (host ++ (links ++ process)),
    )

texts_from : (n a k : ℕ) → n ≤ 40 → a + k ≤ 256 → All (λ (text : List ℕ). length text ≤ 8192) (map (λ (router : ℕ). text_of (router_lines n router)) (range_with_len a k))
texts_from n a zero few within = λ i d l. absurd (omega (arith, l))
texts_from n a (suc k) few within =
    All-cons (λ (text : List ℕ). length text ≤ 8192) (text_of (router_lines n a)) (map (λ (router : ℕ). text_of (router_lines n router)) (range_with_len (a + 1) k))
    (text_short n a few (omega (arith, within))) (texts_from n (a + 1) k few (omega (arith, within)))

-- each file has at most 8,192 bytes
pub texts_short : (n : ℕ) → n ≤ 40 → All (λ (text : List ℕ). length text ≤ 8192) (router_texts n)
texts_short n few = texts_from n 1 n few (omega (arith, few))

-- so it has fewer than 2^32
pub texts_length : (n : ℕ) → n ≤ 40 → All (λ (text : List ℕ). length text < 2 ^ 32) (router_texts n)
texts_length n few = λ i d l. omega (arith, texts_short n few i d l)

-- as many policies as routers, and one more
pub asked_length : (n : ℕ) → length (asked n) ≡ n + 1
asked_length n = length-append (map (asked_around n) (numbers n)) (_ ∷ []) ∙ ap (λ (k : ℕ). k + 1) (length-map-range_with_len (asked_around n) 1 n)
