-- How long the lines are that edits put into files.
use Rattle.std.proofs.Common.{ℕ, ◌+◌, ◌^◌, ◌<◌, ◌≤◌, ◌==◌, Bool, true, false, if◌then◌else◌, List, [], ◌∷◌, ◌++◌, length, arith, codes, decimal}
use Rattle.std.specs.Prelude.{Option, Some, None}
use Rattle.arc_base.specs.PrefixText.{address_text, number_of, prefix_text}
use Rattle.ios_lines.specs.Written.{spaced}
use Rattle.ios_words.specs.declared.commands.PacketText.{PacketText}
use Rattle.ios_words.specs.declared.commands.Command.TheVariants as commands
use Rattle.ios_words.specs.declared.commands.RouteText.{RouteText}
use Rattle.ios_words.specs.declared.kinds.BlockKind.TheVariants as kinds
use Rattle.ios_words.specs.Numbers.{list_kind}
use Rattle.ios_words.specs.Plain.{plain_line}
use Rattle.ios_words.specs.Printed.{entry_words, length_words, order_words, packet_words, route_words, sequence_words, side_words, unless, verdict_word}
use Rattle.ios_words.proofs.WordSizes.{address-few, length-few, number-few, packet-few, prefix-few, side-few, top-few, verdict-few, word-more, words-more}

abbrev pub IsSmallOrder : Option ℕ → Type 0
IsSmallOrder None = Unit {0}
IsSmallOrder (Some n) = n < 1000000

order-few : (order : Option ℕ) → IsSmallOrder order → length (spaced (order_words order)) ≤ 7
order-few None small = omega arith
order-few (Some n) small = omega (arith, word-more (decimal n) [], number-few n small)

sequence-few : (order : Option ℕ) → IsSmallOrder order → length (spaced (sequence_words order)) ≤ 11
sequence-few None small = omega arith
sequence-few (Some n) small = omega (arith, word-more (codes "seq") (decimal n ∷ []), word-more (decimal n) [], number-few n small)

pub entry-line-few : (order : Option ℕ) (entry : PacketText) → IsSmallOrder order → length (plain_line kinds.Extended (commands.Entry order entry)) ≤ 101
entry-line-few order entry small = omega (arith, words-more (order_words order) (packet_words entry), order-few order small, packet-few entry)

-- an entry of a list of any kind
listed-few : (o : Option Bool) (entry : PacketText) → length (spaced (entry_words o entry)) ≤ 94
listed-few (Some true) entry = packet-few entry
listed-few (Some false) entry = omega (arith, word-more (verdict_word entry.permit) (side_words entry.from), verdict-few entry.permit, side-few entry.from)
listed-few None entry = omega (arith, word-more (verdict_word entry.permit) (side_words entry.from), verdict-few entry.permit, side-few entry.from)

pub list-line-few : (name : List ℕ) (entry : PacketText) → length name ≤ 64 → length (plain_line kinds.Top (commands.ListLine name entry)) ≤ 170
list-line-few name entry few =
    let words : List (List ℕ) = entry_words (list_kind (number_of name)) entry in
    omega (arith, top-few (codes "access-list") (name ∷ words), word-more name words, listed-few (list_kind (number_of name)) entry)

-- the lengths of an entry of a prefix list
lengths-few : (len low high : ℕ) → low ≤ 32 → high ≤ 32 → length (spaced (length_words len low high)) ≤ 12
lengths-few len low high few most = by (low == len) (high == len) (high == 32)
  where
    by : (a b c : Bool) → length (spaced (if a then (if b then [] else codes "le" ∷ decimal high ∷ []) else (codes "ge" ∷ decimal low ∷ (if c then [] else codes "le" ∷ decimal high ∷ [])))) ≤ 12
    by true true c = omega arith
    by true false c = omega (arith, word-more (codes "le") (decimal high ∷ []), word-more (decimal high) [], length-few high most)
    by false b true = omega (arith, word-more (codes "ge") (decimal low ∷ []), word-more (decimal low) [], length-few low few)
    by false b false =
        omega (
          arith,
          word-more (codes "ge") (decimal low ∷ codes "le" ∷ decimal high ∷ []),
          word-more (decimal low) (codes "le" ∷ decimal high ∷ []),
          word-more (codes "le") (decimal high ∷ []),
          word-more (decimal high) [],
          length-few low few,
          length-few high most,
        )

pub prefix-line-few : (name : List ℕ) (order : Option ℕ) (route : RouteText) → length name ≤ 64 → IsSmallOrder order → route.low ≤ 32 → route.high ≤ 32 →
    length (plain_line kinds.Top (commands.PrefixLine name order route)) ≤ 128
prefix-line-few name order route few small low high =
    let lasts : List (List ℕ) = length_words route.prefix.len route.low route.high in
    let rest : List (List ℕ) = route_words route in
    omega (
      arith,
      top-few (codes "ip") (codes "prefix-list" ∷ name ∷ sequence_words order ++ rest),
      word-more (codes "prefix-list") (name ∷ sequence_words order ++ rest),
      word-more name (sequence_words order ++ rest),
      words-more (sequence_words order) rest,
      word-more (verdict_word route.permit) (prefix_text route.prefix ∷ lasts),
      word-more (prefix_text route.prefix) lasts,
      sequence-few order small,
      verdict-few route.permit,
      prefix-few route.prefix,
      lengths-few route.prefix.len route.low route.high low high,
    )

pub list-head-few : (name : List ℕ) → length name ≤ 64 → length (plain_line kinds.Top (commands.ListBlock true name)) ≤ 90
list-head-few name few =
    omega (
      arith,
      top-few (codes "ip") (codes "access-list" ∷ codes "extended" ∷ name ∷ []),
      word-more (codes "access-list") (codes "extended" ∷ name ∷ []),
      word-more (codes "extended") (name ∷ []),
      word-more name [],
    )

pub group-few : (name : List ℕ) → length name ≤ 64 → length (plain_line kinds.Interface (commands.Group name true)) ≤ 90
group-few name few =
    omega (arith, word-more (codes "ip") (codes "access-group" ∷ name ∷ codes "in" ∷ []), word-more (codes "access-group") (name ∷ codes "in" ∷ []), word-more name (codes "in" ∷ []))

pub neighbor-list-few : (peer : ℕ) (name : List ℕ) → peer < 2 ^ 32 → length name ≤ 64 → length (plain_line kinds.Bgp (commands.NeighborList peer name)) ≤ 110
neighbor-list-few peer name small few =
    omega (
      arith,
      word-more (codes "neighbor") (address_text peer ∷ codes "prefix-list" ∷ name ∷ codes "in" ∷ []),
      word-more (address_text peer) (codes "prefix-list" ∷ name ∷ codes "in" ∷ []),
      word-more (codes "prefix-list") (name ∷ codes "in" ∷ []),
      word-more name (codes "in" ∷ []),
      address-few peer small,
    )

unless-few : (b : Bool) (ws : List (List ℕ)) → length (spaced (unless b ws)) ≤ 3 + length (spaced ws)
unless-few true ws = omega arith
unless-few false ws = omega (arith, word-more (codes "no") ws)

pub passive-few : (b : Bool) (name : List ℕ) → length name ≤ 64 → length (plain_line kinds.Ospf (commands.Passive b (Some name))) ≤ 90
passive-few b name few = omega (arith, unless-few b (codes "passive-interface" ∷ name ∷ []), word-more (codes "passive-interface") (name ∷ []), word-more name [])

pub neighbor-few : (peer : ℕ) (b : Bool) → peer < 2 ^ 32 → length (plain_line kinds.Bgp (commands.NeighborDown peer b)) ≤ 90
neighbor-few peer b small =
    omega (
      arith,
      unless-few b (codes "neighbor" ∷ address_text peer ∷ codes "shutdown" ∷ []),
      word-more (codes "neighbor") (address_text peer ∷ codes "shutdown" ∷ []),
      word-more (address_text peer) (codes "shutdown" ∷ []),
      address-few peer small,
    )
