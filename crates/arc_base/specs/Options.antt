-- Values that are there or not, one after the other.
use Rattle.std.specs.Prelude.{Option, option_and_then}

-- what a value that is there is read as; each line `x ← o` of a `do` block means it
infixl 10 ◌>>=◌
abbrev pub ◌>>=◌ : {A B : Type 0} → Option A → (A → Option B) → Option B
o >>= f = option_and_then f o
