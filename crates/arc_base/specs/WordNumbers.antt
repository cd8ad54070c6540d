-- The numbers that words write.
use Rattle.std.specs.Prelude.{ℕ, ◌+◌, ◌-◌, ◌*◌, ℤ, pos, negsuc, suc, zero, Bool}
use Rattle.std.specs.Prelude.{if◌then◌else◌, ◌==◌, ◌&&◌, nat_le, List, [], ◌∷◌, Option, Some, None}
use Rattle.std.specs.Prelude.{option_and_then, fold}
use Rattle.std.specs.Option.{option_map}
use Rattle.std.specs.Str.{all_ascii_digits}
use Rattle.arc_base.specs.Words.{is_filled}

-- the number with one more digit at its end
abbrev pub with_digit : ℕ → ℕ → ℕ
with_digit n digit = 10 * n + (digit - 48)

-- the number that decimal digits write after those of another
abbrev pub value_after : ℕ → List ℕ → ℕ
value_after n digits = fold with_digit n digits

-- the word is one decimal digit or more, and writes a number of at most the limit
abbrev pub is_natural : ℕ → List ℕ → Bool
is_natural limit word =
    is_filled word && (all_ascii_digits word && nat_le (value_after 0 word) limit)

-- that number
abbrev pub natural : ℕ → List ℕ → Option ℕ
natural limit word = if is_natural limit word then Some (value_after 0 word) else None

-- minus a number; minus zero is none
abbrev pub minus : ℕ → Option ℤ
minus zero = None
minus (suc n) = Some (negsuc n)

-- the whole number that a word writes, digits with or without a minus sign, if its absolute value
-- is at most the limit
abbrev pub number : ℕ → List ℕ → Option ℤ
number limit [] = None
number limit (b ∷ bytes) =
    if b == 45 then option_and_then minus (natural limit bytes)
    else option_map pos (natural limit (b ∷ bytes))
