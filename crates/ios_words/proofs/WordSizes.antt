-- How long the words of lines are.
use Rattle.std.proofs.Common.{◌≡◌, ℕ, ◌+◌, ◌-◌, ◌^◌, ◌<◌, ◌≤◌, ◌==◌, Bool, true, false, if◌then◌else◌, List, [], ◌∷◌, ◌++◌, length, length-append, refl, sym, subst, arith, codes, decimal}
use Rattle.std.specs.Prelude.{Option, Some, None, nat_le, find}
use Rattle.std.specs.Option.{option_map_or}
use Rattle.std.specs.Net.Text.{dotted_text}
use Rattle.std.proofs.lemmas.Bool.{leb-true}
use Rattle.std.proofs.lemmas.Fmt.{length-decimal-le}
use Rattle.arc_base.specs.declared.prefix.Prefix.{Prefix}
use Rattle.arc_base.specs.PrefixText.{address_text, prefix_text}
use Rattle.arc_base.proofs.AddressTexts.{IsDotted-address_text}
use Rattle.ios_lines.specs.Written.{spaced}
use Rattle.ios_words.specs.declared.commands.PacketText.{PacketText}
use Rattle.ios_words.specs.Printed.{packet_words, side_words, top_line, verdict_word}
use Rattle.ios_words.specs.Services.{are_all, are_all_ports, port, port_words, protocol, protocol_names, protocol_text, protocol_word}
use Rattle.ios_words.proofs.PlainSteps.{wildcard-small}
use Rattle.ios_words.proofs.PrintedServices.{found-both}

-- words, each after a space
pub word-more : (w : List ℕ) (ws : List (List ℕ)) → length (spaced (w ∷ ws)) ≡ 1 + length w + length (spaced ws)
word-more w ws = omega (arith, length-append w (spaced ws))

pub words-more : (xs ys : List (List ℕ)) → length (spaced (xs ++ ys)) ≡ length (spaced xs) + length (spaced ys)
words-more [] ys = omega arith
words-more (x ∷ xs) ys = omega (arith, word-more x (xs ++ ys), word-more x xs, words-more xs ys)

pub top-few : (w : List ℕ) (ws : List (List ℕ)) → length (top_line (w ∷ ws)) ≡ length w + length (spaced ws)
top-few w ws = length-append w (spaced ws)

byte-few : (n : ℕ) → n < 256 → length (decimal n) ≤ 3
byte-few n h = length-decimal-le 3 n (omega arith) (omega arith) (omega arith)

pub address-few : (addr : ℕ) → addr < 2 ^ 32 → length (address_text addr) ≤ 15
address-few addr small =
    let dotted = IsDotted-address_text addr small in
    let a = decimal dotted.a in
    let b = decimal dotted.b in
    let c = decimal dotted.c in
    let d = decimal dotted.d in
    let size : length (dotted_text dotted.a dotted.b dotted.c dotted.d) ≤ 15 =
    omega (
      arith,
      byte-few dotted.a dotted.fit.0,
      byte-few dotted.b dotted.fit.1,
      byte-few dotted.c dotted.fit.2,
      byte-few dotted.d dotted.fit.3,
      length-append (a ++ codes "." ++ b ++ codes "." ++ c ++ codes ".") d,
      length-append (a ++ codes "." ++ b ++ codes "." ++ c) (codes "."),
      length-append (a ++ codes "." ++ b ++ codes ".") c,
      length-append (a ++ codes "." ++ b) (codes "."),
      length-append (a ++ codes ".") b,
      length-append a (codes "."),
    ) in
    subst (λ (t : List ℕ). length t ≤ 15) (sym dotted.spelled) size

pub prefix-few : (p : Prefix) → length (prefix_text p) ≤ 18
prefix-few p =
    let low : p.len ≤ 32 = p.length in
    omega (
      arith,
      length-append (address_text p.addr ++ codes "/") (decimal p.len),
      length-append (address_text p.addr) (codes "/"),
      address-few p.addr p.in_range,
      length-decimal-le 2 p.len (omega arith) (omega arith) (omega arith),
    )

pub length-few : (n : ℕ) → n ≤ 32 → length (decimal n) ≤ 2
length-few n h = length-decimal-le 2 n (omega arith) (omega arith) (omega arith)

pub number-few : (n : ℕ) → n < 1000000 → length (decimal n) ≤ 6
number-few n h = length-decimal-le 6 n (omega arith) (omega arith) (omega arith)

-- one side of an entry
pub side-few : (p : Prefix) → length (spaced (side_words p)) ≤ 32
side-few p = by (p.len == 0) (p.len == 32)
  where
    by : (a b : Bool) → length (spaced (if a then codes "any" ∷ [] else (if b then codes "host" ∷ address_text p.addr ∷ [] else address_text p.addr ∷ address_text (2 ^ (32 - p.len) - 1) ∷ []))) ≤ 32
    by true b = omega arith
    by false true = omega (arith, word-more (codes "host") (address_text p.addr ∷ []), word-more (address_text p.addr) [], address-few p.addr p.in_range)
    by false false =
        omega (
          arith,
          word-more (address_text p.addr) (address_text (2 ^ (32 - p.len) - 1) ∷ []),
          word-more (address_text (2 ^ (32 - p.len) - 1)) [],
          address-few p.addr p.in_range,
          address-few (2 ^ (32 - p.len) - 1) (wildcard-small p.len),
        )

abbrev is_short_row : ℕ × List ℕ → Bool
is_short_row row = nat_le (length row.1) 4

-- the protocol and the ports of an entry
protocol-few : (n : ℕ) → n < 256 → length (protocol_text n) ≤ 4
protocol-few n small = by (find (λ row. row.0 == n) protocol_names) refl
  where
    by : (o : Option (ℕ × List ℕ)) → find (λ row. row.0 == n) protocol_names ≡ o → length (option_map_or (λ row. row.1) o (decimal n)) ≤ 4
    by None e = omega (arith, byte-few n small)
    by (Some row) e = leb-true (length row.1) 4 (found-both (λ row. row.0 == n) is_short_row protocol_names row e refl).1

pub verdict-few : (b : Bool) → length (verdict_word b) ≤ 6
verdict-few true = omega arith
verdict-few false = omega arith

module _ (entry : PacketText) where
  high-small : entry.high < 2 ^ 24
  high-small = entry.in_range

  low-small : entry.low < 2 ^ 24
  low-small = let ordered : entry.low ≤ entry.high = entry.ordered in omega (arith, ordered, high-small)

  protocol-word-few : length (protocol_word entry.low entry.high) ≤ 4
  protocol-word-few = by (are_all entry.low entry.high)
    where
      by : (b : Bool) → length (if b then codes "ip" else protocol_text (protocol entry.low)) ≤ 4
      by true = omega arith
      by false = let low = low-small in protocol-few (protocol entry.low) (omega (arith, low))

  port-few : (n : ℕ) → length (decimal (port n)) ≤ 5
  port-few n = length-decimal-le 5 (port n) (omega arith) (omega arith) (omega arith)

  ports-few : length (spaced (port_words entry.low entry.high)) ≤ 18
  ports-few = by (are_all_ports entry.low entry.high) (entry.low == entry.high)
    where
      by : (a b : Bool) → length (spaced (if a then [] else (if b then codes "eq" ∷ decimal (port entry.low) ∷ [] else codes "range" ∷ decimal (port entry.low) ∷ decimal (port entry.high) ∷ []))) ≤ 18
      by true b = omega arith
      by false true = omega (arith, word-more (codes "eq") (decimal (port entry.low) ∷ []), word-more (decimal (port entry.low)) [], port-few entry.low)
      by false false =
          omega (
            arith,
            word-more (codes "range") (decimal (port entry.low) ∷ decimal (port entry.high) ∷ []),
            word-more (decimal (port entry.low)) (decimal (port entry.high) ∷ []),
            word-more (decimal (port entry.high)) [],
            port-few entry.low,
            port-few entry.high,
          )

  pub packet-few : length (spaced (packet_words entry)) ≤ 94
  packet-few =
      let sides : List (List ℕ) = side_words entry.from ++ side_words entry.to ++ port_words entry.low entry.high in
      omega (
        arith,
        word-more (verdict_word entry.permit) (protocol_word entry.low entry.high ∷ sides),
        word-more (protocol_word entry.low entry.high) sides,
        words-more (side_words entry.from ++ side_words entry.to) (port_words entry.low entry.high),
        words-more (side_words entry.from) (side_words entry.to),
        verdict-few entry.permit,
        protocol-word-few,
        side-few entry.from,
        side-few entry.to,
        ports-few,
      )
