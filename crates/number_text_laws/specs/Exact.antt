-- Which texts are read as numbers and addresses.
use Rattle.std.specs.Prelude.{◌≡◌, ◌↔◌, ℕ, ◌<◌, ◌^◌, List, Some, decimal}
use Rattle.arc_base.specs.PrefixText.{address_of, address_text, number_of}

-- a text is read as a number exactly where it is that number's digits and the number is below 2^64
abbrev pub NumberTextsAreExact : Type 0
NumberTextsAreExact =
    (text : List ℕ) (number : ℕ) →
    (number_of text ≡ Some number) ↔ ((number < 2 ^ 64) × (text ≡ decimal number))

-- a text is read as an address exactly where it is that address's text and the address has 32 bits
abbrev pub AddressTextsAreExact : Type 0
AddressTextsAreExact =
    (text : List ℕ) (addr : ℕ) →
    (address_of text ≡ Some addr) ↔ ((addr < 2 ^ 32) × (text ≡ address_text addr))
