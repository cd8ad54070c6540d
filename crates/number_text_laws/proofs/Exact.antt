-- Which texts are read as numbers and addresses.
use Rattle.std.proofs.Common.{◌≡◌, ℕ, ◌^◌, ◌<◌, List, [], ◌∷◌, Some, decimal, sym, ap, subst, ◌∙◌, arith}
use Rattle.std.specs.Int.{w32, from_be_bytes}
use Rattle.arc_base.specs.PrefixText.{address_of, address_text, number_of}
use Rattle.arc_base.proofs.AddressTexts.{address_of-some, address_of-address_text, address_text-dotted}
use Rattle.arc_base.proofs.NumberTexts.{number_of-some, number_of-decimal}
use Rattle.number_text_laws.specs.Exact.{AddressTextsAreExact, NumberTextsAreExact}

pub numbers-exact : NumberTextsAreExact
numbers-exact text number =
    (number_of-some text number, λ (h : (number < 2 ^ 64) × (text ≡ decimal number)). ap number_of h.1 ∙ number_of-decimal number h.0)

-- four bytes make an address of 32 bits
four-bytes : (a b c d : ℕ) → (a < 256) × (b < 256) × (c < 256) × (d < 256) → from_be_bytes w32 (a ∷ b ∷ c ∷ d ∷ []) < 2 ^ 32
four-bytes a b c d h = omega (arith, h.0, h.1, h.2, h.3)

read-small : (text : List ℕ) (addr : ℕ) → address_of text ≡ Some addr → (addr < 2 ^ 32) × (text ≡ address_text addr)
read-small text addr e =
    let (octets, dotted, value) = address_of-some text addr e in
    let small = subst (λ (bytes : List ℕ). from_be_bytes w32 bytes < 2 ^ 32) (sym dotted.value) (four-bytes dotted.a dotted.b dotted.c dotted.d dotted.fit) in
    (subst (λ (n : ℕ). n < 2 ^ 32) value small, address_text-dotted text octets dotted ∙ ap address_text value)

pub addresses-exact : AddressTextsAreExact
addresses-exact text addr =
    (read-small text addr, λ (h : (addr < 2 ^ 32) × (text ≡ address_text addr)). ap address_of h.1 ∙ address_of-address_text addr h.0)
