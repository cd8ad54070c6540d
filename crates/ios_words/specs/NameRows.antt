-- What the program's tables of names mean.
use Rattle.std.specs.Prelude.{ℕ, ◌==◌, List, Option, find}
use Rattle.std.specs.Option.{option_map}
use Rattle.ios_words.specs.declared.protocols.Named.{Named}

-- the number and its name that the program's table writes so
abbrev pub row_of : Named → ℕ × List ℕ
row_of r = (r.number, r.name.now)

-- the name beside a number, where the number is there
abbrev pub name_at : List (ℕ × List ℕ) → ℕ → Option (List ℕ)
name_at rows number = option_map (λ row. row.1) (find (λ row. row.0 == number) rows)
