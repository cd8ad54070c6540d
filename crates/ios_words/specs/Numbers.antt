-- Numbers, masks and areas as router files write them.
use Rattle.std.specs.Prelude.{ℕ, ◌-◌, ◌^◌, ◌==◌, ◌&&◌, ◌||◌, nat_le, Bool, true, false, List, map}
use Rattle.std.specs.Prelude.{position, Option, Some, None, Result, Ok, Err, if◌then◌else◌}
use Rattle.std.specs.Option.{option_or}
use Rattle.std.specs.List.{range_with_len}
use Rattle.arc_base.specs.PrefixText.{number_of, address_of}
use Rattle.ios_words.specs.declared.kinds.Flaw.{Flaw}
use Rattle.ios_words.specs.declared.kinds.Flaw.TheVariants.{Amiss, Scattered}

-- whether the number is from the first to the second
abbrev pub is_from : ℕ → ℕ → ℕ → Bool
is_from low high n = nat_le low n && nat_le n high

-- the number, where it is from the first to the second
abbrev pub ranged : ℕ → ℕ → Option ℕ → Option ℕ
ranged low high None = None
ranged low high (Some n) = if is_from low high n then Some n else None

-- the number that a word writes, from the first to the second
abbrev pub number_in : ℕ → ℕ → List ℕ → Option ℕ
number_in low high word = ranged low high (number_of word)

-- `ones` ones and then zeros, of 32 bits
abbrev pub mask : ℕ → ℕ
mask ones = 2 ^ 32 - 2 ^ (32 - ones)

-- the masks, by the number of their ones
unfoldable pub masks : List ℕ
masks = map mask (range_with_len 0 33)

-- the number of ones of an address that is a mask
abbrev pub mask_ones : ℕ → Option ℕ
mask_ones addr = position (λ m. m == addr) masks

-- a number of ones, where it is at least `least`; without one the address is no mask
abbrev pub length_from : ℕ → Option ℕ → Result ℕ Flaw
length_from least None = Err Scattered
length_from least (Some ones) = if nat_le least ones then Ok ones else Err Amiss

-- the length of the mask that an address is, at least `least`
abbrev pub mask_of_address : ℕ → Option ℕ → Result ℕ Flaw
mask_of_address least None = Err Amiss
mask_of_address least (Some addr) = length_from least (mask_ones addr)

-- the number of ones of the mask that a word writes, at least `least`
abbrev pub mask_length : ℕ → List ℕ → Result ℕ Flaw
mask_length least word = mask_of_address least (address_of word)

-- the number of zeros of the wildcard that an address is
abbrev pub wildcard_of_address : Option ℕ → Result ℕ Flaw
wildcard_of_address None = Err Amiss
wildcard_of_address (Some addr) = length_from 0 (mask_ones (2 ^ 32 - 1 - addr))

-- the number of zeros of the wildcard that a word writes: zeros and then ones
abbrev pub wildcard_length : List ℕ → Result ℕ Flaw
wildcard_length word = wildcard_of_address (address_of word)

-- the area that a word writes, as a number of 32 bits or as an address
abbrev pub area_of : List ℕ → Option ℕ
area_of word = option_or (number_in 0 (2 ^ 32 - 1) word) (address_of word)

-- the length of a network by its address's first byte: classes A, B and C
abbrev pub class_length : ℕ → Option ℕ
class_length byte =
    if is_from 1 127 byte then Some 8 else
    (if is_from 128 191 byte then Some 16 else (if is_from 192 223 byte then Some 24 else None))

-- whether a number is that of a standard list
abbrev pub is_standard : ℕ → Bool
is_standard n = is_from 1 99 n || is_from 1300 1999 n

-- whether a number is that of an extended list
abbrev pub is_extended : ℕ → Bool
is_extended n = is_from 100 199 n || is_from 2000 2699 n

-- whether the list of this number is extended, where there may be one
abbrev pub list_kind : Option ℕ → Option Bool
list_kind None = None
list_kind (Some n) =
    if is_standard n then Some false else (if is_extended n then Some true else None)
