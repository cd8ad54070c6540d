-- Indexes of prefixes, which keep each by its address and its length.
use Rattle.std.specs.Prelude.{ℕ, List, Contains}
use Rattle.arc_base.specs.Addresses.{Holds}
use Rattle.arc_base.specs.declared.prefix.Prefix.{Prefix}

-- the prefix is among those of an index with these keys
abbrev pub HasPrefix : List (ℕ × ℕ) → Prefix → Type 0
HasPrefix keys p = Contains keys (p.addr, p.len)

-- a prefix is among them that holds the address
abbrev pub HasPrefixOf : List (ℕ × ℕ) → ℕ → Type 0
HasPrefixOf keys address = (p : Prefix) × HasPrefix keys p × Holds p address
