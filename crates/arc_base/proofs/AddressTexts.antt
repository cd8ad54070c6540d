-- Which address a text writes.
use Rattle.std.proofs.Common.{◌≡◌, ℕ, zero, suc, ◌%◌, ◌^◌, ◌<◌, List, [], ◌∷◌, ◌++◌, length, get_or, Some, None, refl, sym, ap, subst, ◌∙◌, arith, lit≤, append-nil}
use Rattle.std.proofs.lemmas.Bool.{eqb-true}
use Rattle.std.proofs.lemmas.Nat.{be_bytes_4, from_be_bytes-to_be_bytes_4}
use Rattle.std.proofs.NetLemmas.Options.{cond_some, and_then_some}
use Rattle.std.proofs.NetLemmas.Ipv4.{read_ipv4_complete, read_ipv4_sound}
use Rattle.std.proofs.NetLemmas.Texts.{IsDotted-ipv4_text}
use Rattle.std.specs.Int.{w32, to_be_bytes, from_be_bytes}
use Rattle.std.specs.declared.net.ipv4_addr.Ipv4Addr.{Ipv4Addr}
use Rattle.std.specs.Net.Addr.{ipv4_bits}
use Rattle.std.specs.Net.Text.{ipv4_text}
use Rattle.std.specs.Net.Grammar.{IsDotted, IsIpv4Text}
use Rattle.std.specs.Net.Reader.{read_ipv4}
use Rattle.arc_base.specs.PrefixText.{address_of, address_text}

-- a text of four bytes writes the address that they make
pub address_of-dotted : (text octets : List ℕ) → IsDotted text octets → address_of text ≡ Some (from_be_bytes w32 octets)
address_of-dotted text octets h =
    let read : read_ipv4 text ≡ Some (octets, []) =
    let P : List ℕ → Type 0 = λ t. read_ipv4 t ≡ Some (octets, []) in
    subst P (append-nil text) (read_ipv4_complete text octets [] h (lit≤ tt)) in
    rw read refl

nothing_left : (rest : List ℕ) → length rest ≡ 0 → rest ≡ []
nothing_left [] e = refl
nothing_left (b ∷ rest) e = absurd (omega arith)

-- a text that writes an address is four bytes
pub address_of-some : (text : List ℕ) (addr : ℕ) → address_of text ≡ Some addr → (octets : List ℕ) × IsDotted text octets × (from_be_bytes w32 octets ≡ addr)
address_of-some text addr e =
    and_then_some _ (read_ipv4 text) addr e λ read read_is kept.
    let (none_left, value) = cond_some _ _ _ kept in
    let (front, split, dotted) = read_ipv4_sound text read.0 read.1 read_is in
    let whole : text ≡ front = split ∙ ap (λ r. front ++ r) (nothing_left read.1 (eqb-true _ _ none_left)) ∙ append-nil front in
    let P : List ℕ → Type 0 = λ t. IsDotted t read.0 in
    (read.0, subst P (sym whole) dotted, value)

-- a text that is no four bytes writes no address
pub address_of-none : (text : List ℕ) → ((octets : List ℕ) → IsDotted text octets → ⊥) → address_of text ≡ None
address_of-none text never = go (address_of text) refl
  where
    go : (r : _) → address_of text ≡ r → address_of text ≡ None
    go None e = e
    go (Some addr) e = let (octets, dotted, _) = address_of-some text addr e in absurd (never octets dotted)

below-each : (a b c d : ℕ) → (a < 256) × (b < 256) × (c < 256) × (d < 256) → (k : ℕ) → get_or (a ∷ b ∷ c ∷ d ∷ []) k 0 < 256
below-each a b c d h zero = h.0
below-each a b c d h (suc zero) = h.1
below-each a b c d h (suc (suc zero)) = h.2
below-each a b c d h (suc (suc (suc zero))) = h.3
below-each a b c d h (suc (suc (suc (suc k)))) = omega arith

-- four bytes are the text of the address that they make
pub address_text-dotted : (text octets : List ℕ) → IsDotted text octets → text ≡ address_text (from_be_bytes w32 octets)
address_text-dotted text octets h =
    let e = h.value in
    let bytes : to_be_bytes w32 (from_be_bytes w32 octets) ≡ octets =
    be_bytes_4 octets _ (ap length e) (λ k. let P : List ℕ → Type 0 = λ o. get_or o k 0 < 256 in subst P (sym e) (below-each h.a h.b h.c h.d h.fit k)) refl in
    h.spelled ∙ sym (ap ipv4_text (bytes ∙ e))

mod_below : (n : ℕ) → n % 256 < 256
mod_below n = omega arith

-- the text of an address is four bytes, and these make it
pub IsDotted-address_text : (addr : ℕ) → addr < 2 ^ 32 → IsDotted (address_text addr) (to_be_bytes w32 addr)
IsDotted-address_text addr small = IsDotted-ipv4_text (to_be_bytes w32 addr) refl (below-each _ _ _ _ (mod_below _, mod_below _, mod_below _, mod_below _))

-- what `parse_ascii` reads
pub bits-address_of : (text : List ℕ) (a : Ipv4Addr) → IsIpv4Text text a → Some (ipv4_bits a) ≡ address_of text
unfolding ipv4_bits
bits-address_of text a dotted = sym (address_of-dotted text _ dotted)

pub none-address_of : (text : List ℕ) → ((a : Ipv4Addr) → IsIpv4Text text a → ⊥) → None ≡ address_of text
none-address_of text never = sym (address_of-none text (λ octets dotted. never (record { octets = octets }) dotted))

-- the text of an address is read as it
pub address_of-address_text : (addr : ℕ) → addr < 2 ^ 32 → address_of (address_text addr) ≡ Some addr
address_of-address_text addr small =
    address_of-dotted _ _ (IsDotted-address_text addr small) ∙ ap Some (from_be_bytes-to_be_bytes_4 addr small)
