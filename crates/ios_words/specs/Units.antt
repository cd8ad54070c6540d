-- Numbers joined by slashes, byte by byte.
use Rattle.std.specs.Prelude.{ℕ, ◌==◌, Bool, true, false, Option, Some, None, List, [], ◌∷◌}
use Rattle.std.specs.Prelude.{if◌then◌else◌}
use Rattle.std.specs.Char.{is_ascii_digit}
use Rattle.std.specs.Option.{option_map_or}
use Rattle.ios_words.specs.declared.names.Before.{Before}
use Rattle.ios_words.specs.declared.names.Before.TheVariants.{Start, Zero, Digit}

-- the state after this byte, if it is allowed here
abbrev pub next : Before → ℕ → Option Before
next Start b = if b == 48 then Some Zero else (if is_ascii_digit b then Some Digit else None)
next Zero b = if b == 47 then Some Start else None
next Digit b = if b == 47 then Some Start else (if is_ascii_digit b then Some Digit else None)

-- whether the numbers may end here
abbrev pub ends : Before → Bool
ends Start = false
ends Zero = true
ends Digit = true

-- whether the bytes complete numbers joined by slashes
abbrev pub complete : Before → List ℕ → Bool
complete before [] = ends before
complete before (b ∷ bytes) = option_map_or (λ after. complete after bytes) (next before b) false
