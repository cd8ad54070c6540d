-- The words of lines of router files, where they are not fixed ones.
use Rattle.std.specs.Prelude.{ℕ, ◌-◌, ◌==◌, ◌^◌, Bool, true, false, if◌then◌else◌, List, [], ◌∷◌}
use Rattle.std.specs.Prelude.{◌++◌, codes, decimal, Option, Some, None}
use Rattle.arc_base.specs.declared.prefix.Prefix.{Prefix}
use Rattle.arc_base.specs.PrefixText.{address_text, prefix_text}
use Rattle.ios_lines.specs.Kinds.{IsClosing}
use Rattle.ios_lines.specs.Written.{IsWritten, spaced}
use Rattle.ios_words.specs.declared.commands.PacketText.{PacketText}
use Rattle.ios_words.specs.declared.commands.RouteText.{RouteText}
use Rattle.ios_words.specs.Prefixes.{whole}
use Rattle.ios_words.specs.Services.{protocol_word, port_words}

-- no before the words of what is no longer to be
abbrev pub unless : Bool → List (List ℕ) → List (List ℕ)
unless true words = words
unless false words = codes "no" ∷ words

-- whether a list is extended
abbrev pub kind_word : Bool → List ℕ
kind_word extended = if extended then codes "extended" else codes "standard"

-- the direction in which a list is bound
abbrev pub direction_word : Bool → List ℕ
direction_word inbound = if inbound then codes "in" else codes "out"

-- the network type of an interface
abbrev pub network_word : Bool → List ℕ
network_word point = if point then codes "point-to-point" else codes "broadcast"

-- an interface that is passive, or each one where none is named
abbrev pub interface_word : Option (List ℕ) → List ℕ
interface_word None = codes "default"
interface_word (Some name) = name

-- permit or deny
abbrev pub verdict_word : Bool → List ℕ
verdict_word permit = if permit then codes "permit" else codes "deny"

-- the wildcard of a prefix's length
abbrev pub wildcard_text : Prefix → List ℕ
wildcard_text p = address_text (2 ^ (32 - p.len) - 1)

-- the addresses of a prefix, as one side of an entry: all, one, or those of an address and a
-- wildcard
abbrev pub side_words : Prefix → List (List ℕ)
side_words p =
    if p.len == 0 then codes "any" ∷ []
    else (if p.len == 32 then codes "host" ∷ address_text p.addr ∷ []
    else address_text p.addr ∷ wildcard_text p ∷ [])

-- an entry of an extended list without its number
abbrev pub packet_words : PacketText → List (List ℕ)
packet_words entry =
    verdict_word entry.permit ∷ protocol_word entry.low entry.high ∷ side_words entry.from ++
    side_words entry.to ++ port_words entry.low entry.high

-- an entry of a list of this kind: an extended list names the protocol, where packets go to and
-- which ports they are for
abbrev pub entry_words : Option Bool → PacketText → List (List ℕ)
entry_words (Some true) e = packet_words e
entry_words _ e = verdict_word e.permit ∷ side_words e.from

-- the number before an entry, if there is one
abbrev pub order_words : Option ℕ → List (List ℕ)
order_words None = []
order_words (Some number) = decimal number ∷ []

-- the number after seq, if there is one
abbrev pub sequence_words : Option ℕ → List (List ℕ)
sequence_words None = []
sequence_words (Some number) = codes "seq" ∷ decimal number ∷ []

-- the greatest length of a route, where it is not the one that is meant without it
abbrev pub most_words : ℕ → ℕ → List (List ℕ)
most_words meant high = if high == meant then [] else codes "le" ∷ decimal high ∷ []

-- the lengths of routes inside a prefix of this length: without `ge` and `le` they have its length,
-- and after `ge` alone at most 32
abbrev pub length_words : ℕ → ℕ → ℕ → List (List ℕ)
length_words len low high =
    if low == len then most_words len high
    else codes "ge" ∷ decimal low ∷ most_words 32 high

-- an entry of a prefix list without its number
abbrev pub route_words : RouteText → List (List ℕ)
route_words e =
    verdict_word e.permit ∷ prefix_text e.prefix ∷ length_words e.prefix.len e.low e.high

-- a top line of these words
abbrev pub top_line : List (List ℕ) → List ℕ
top_line [] = []
top_line (word ∷ words) = word ++ spaced words

-- an entry of a prefix list that says of one prefix alone
abbrev pub route_text : Bool → Prefix → RouteText
route_text permit p = record { permit = permit; prefix = p; low = p.len; high = p.len }

-- the entry of all prefixes
abbrev pub all_routes : RouteText
all_routes = record { permit = true; prefix = whole; low = 0; high = 32 }

-- the line that closes a block
pub record IsClosingLine (line : List ℕ) : Type 0 where
  pub written : IsWritten line (line ∷ [])
  pub kind : IsClosing line
