-- The words of a line, which blanks part.
use Rattle.std.specs.Prelude.{ℕ, ◌<◌, ◌≤◌, List, [], ◌∷◌, slice_index, IsTrue, IsFalse}
use Rattle.arc_base.specs.declared.span.Span.{Span}
use Rattle.arc_base.specs.Words.{is_blank}

-- the bytes between two places are all blank
abbrev pub AreBlank : List ℕ → ℕ → ℕ → Type 0
AreBlank text from to =
    (place : ℕ) → from ≤ place → place < to → IsTrue (is_blank (slice_index text place))

-- the bytes between two places are none of them blank
abbrev pub AreFilled : List ℕ → ℕ → ℕ → Type 0
AreFilled text from to =
    (place : ℕ) → from ≤ place → place < to → IsFalse (is_blank (slice_index text place))

-- the first word at or after a place, in a line that ends at another
pub record IsNextWord (text : List ℕ) (at to : ℕ) (word : Span) : Type 0 where
  pub after : at ≤ word.from
  pub blanks : AreBlank text at word.from
  pub some : word.from < word.to
  pub within : word.to ≤ to
  pub filled : AreFilled text word.from word.to
  pub whole : word.to < to → IsTrue (is_blank (slice_index text word.to))

-- the words are the longest runs of bytes other than blanks between two places, in order
abbrev pub AreWords : List ℕ → ℕ → ℕ → List Span → Type 0
AreWords text at to [] = AreBlank text at to
AreWords text at to (word ∷ rest) = IsNextWord text at to word × AreWords text word.to to rest
