-- Lines that are written word for word, with one space between two words.
use Rattle.std.specs.Prelude.{◌≡◌, ℕ, ◌&&◌, nat_lt, Bool, if◌then◌else◌, List, ◌∷◌, ◌++◌, length}
use Rattle.std.specs.Prelude.{flat_map, IsTrue, IsFalse}
use Rattle.std.specs.List.{AllByRecursion, list_all}
use Rattle.ios_lines.specs.declared.kind.Kind.TheVariants.{Comment}
use Rattle.ios_lines.specs.Kinds.{is_mark, kind, top_kind, IsInner}
use Rattle.arc_base.specs.Words.{words}
use Rattle.ios_lines.specs.Ended.{IsFree, HasNoReturn}

-- whether a word has some bytes, and each is above the space
abbrev pub is_plain : List ℕ → Bool
is_plain word = nat_lt 0 (length word) && list_all (nat_lt 32) word

abbrev pub ArePlain : List (List ℕ) → Type 0
ArePlain words = AllByRecursion (λ word. IsTrue (is_plain word)) words

-- words, each after a space: an indented line
abbrev pub spaced : List (List ℕ) → List ℕ
spaced words = flat_map (λ word. 32 ∷ word) words

-- the line has these words, and nothing in it ends a line
pub record IsWritten (line : List ℕ) (ws : List (List ℕ)) : Type 0 where
  pub words : words line ≡ ws
  pub free : IsFree line
  pub no_return : HasNoReturn line

-- an indented line of plain words is one with these words
abbrev pub IndentedLinesAreWritten : Type 0
IndentedLinesAreWritten = (ws : List (List ℕ)) → ArePlain ws → IsWritten (spaced ws) ws

-- and so is a top line
abbrev pub TopLinesAreWritten : Type 0
TopLinesAreWritten =
    (word : List ℕ) (ws : List (List ℕ)) → IsTrue (is_plain word) → ArePlain ws →
    IsWritten (word ++ spaced ws) (word ∷ ws)

-- an indented line belongs to a block, unless it is a comment
abbrev pub IndentedLinesAreInner : Type 0
IndentedLinesAreInner =
    (word : List ℕ) (ws : List (List ℕ)) → ArePlain (word ∷ ws) → IsFalse (is_mark word) →
    IsInner (spaced (word ∷ ws))

-- the kind of a top line is seen from its words
abbrev pub TopLinesHaveTheirKind : Type 0
TopLinesHaveTheirKind =
    (word : List ℕ) (ws : List (List ℕ)) → IsTrue (is_plain word) → ArePlain ws →
    kind (word ++ spaced ws) ≡ (if is_mark word then Comment else top_kind (word ∷ ws))
