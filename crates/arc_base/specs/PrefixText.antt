-- How numbers, addresses and prefixes are written and read. A number is written in decimal digits
-- with no zero before another digit, an address as its four bytes with dots between them, and a
-- prefix as its first address and its length with a slash between them (RFC 4632).
use Rattle.std.specs.Prelude.{◌≡◌, ℕ, ◌-◌, ◌%◌, ◌^◌, ◌==◌, ◌&&◌, nat_lt, nat_le, Bool, true, false}
use Rattle.std.specs.Prelude.{List, [], ◌∷◌, ◌++◌, ◌⊎◌, ◌≤◌, slice_index, length, codes, decimal}
use Rattle.std.specs.Prelude.{bytes_eq, Option, Some, None, if◌then◌else◌, ◌↔◌, refl}
use Rattle.std.specs.Int.{w32, to_be_bytes, from_be_bytes}
use Rattle.std.specs.Net.Text.{ipv4_text}
use Rattle.std.specs.Net.Reader.{read_ipv4}
use Rattle.std.specs.Str.Parse.{digits_value}
use Rattle.std.proofs.lemmas.Bool.{and_parts, eqb-true, leb-true, ltb-true}
use Rattle.arc_base.specs.Cuts.{cut_at}
use Rattle.arc_base.specs.declared.prefix.Prefix.{Prefix}
use Rattle.arc_base.specs.Options.{◌>>=◌}

-- how an address is written
abbrev pub address_text : ℕ → List ℕ
address_text addr = ipv4_text (to_be_bytes w32 addr)

-- how a prefix is written
abbrev pub prefix_text : Prefix → List ℕ
prefix_text p = address_text p.addr ++ codes "/" ++ decimal p.len

-- the number below 2 ^ 64 that is written so, where there is one
abbrev pub number_of : List ℕ → Option ℕ
number_of text =
    let number = digits_value 10 text in
    if nat_lt number (2 ^ 64) && bytes_eq (decimal number) text then Some number else None

-- the text is a lone 0, or begins with another digit
abbrev pub BeginsAsNumber : List ℕ → Type 0
BeginsAsNumber text = (text ≡ 48 ∷ []) ⊎ ((49 ≤ slice_index text 0) × (slice_index text 0 ≤ 57))

-- the address that is written so, where there is one
abbrev pub address_of : List ℕ → Option ℕ
address_of text = do
  read ← read_ipv4 text
  if length read.1 == 0 then Some (from_be_bytes w32 read.0) else None

-- an address of 32 bits, and how many of its first bits count: the bits past these are 0
abbrev pub are_prefix_parts : ℕ → ℕ → Bool
are_prefix_parts addr len = nat_lt addr (2 ^ 32) && (nat_le len 32 && (addr % 2 ^ (32 - len) == 0))

-- the prefix with these parts, where the test of them comes out true
abbrev pub prefix_if : (addr len : ℕ) (test : Bool) →
    are_prefix_parts addr len ≡ test → Option Prefix
prefix_if addr len false e = None
prefix_if addr len true e =
    let (in_range, rest) = and_parts _ _ e in
    let (length, clear) = and_parts _ _ rest in
    Some (record {
      addr = addr;
      len = len;
      in_range = ltb-true _ _ in_range;
      length = leb-true _ _ length;
      clear = eqb-true _ _ clear;
    })

-- the prefix with these parts, where they are those of one
abbrev pub prefix_at : ℕ → ℕ → Option Prefix
prefix_at addr len = prefix_if addr len (are_prefix_parts addr len) refl

-- the prefix that is written so, where there is one
abbrev pub prefix_of : List ℕ → Option Prefix
prefix_of text = do
  parts ← cut_at 47 text
  addr ← address_of parts.0
  len ← number_of parts.1
  prefix_at addr len

-- a text is read as a prefix exactly where it is that prefix's text
abbrev pub PrefixTextsAreExact : Type 0
PrefixTextsAreExact =
    (text : List ℕ) (p : Prefix) → (prefix_of text ≡ Some p) ↔ (text ≡ prefix_text p)
