-- What is open between two lines of a file.
use Rattle.std.specs.Prelude.{◌≡◌, ℕ, ◌+◌, ◌<◌, ◌≤◌, ◌==◌, Bool, false, Option, Some, None, List}
use Rattle.std.specs.Prelude.{◌∷◌, length, take, drop, IsSome}
use Rattle.ios_lines.specs.declared.banner.Delimiter.{Delimiter}
use Rattle.ios_lines.specs.declared.kind.Kind.{Kind}
use Rattle.ios_lines.specs.declared.kind.Kind.TheVariants.{Blank, Comment, Remark, Inner, Single}
use Rattle.ios_lines.specs.declared.kind.Kind.TheVariants.{Head, Banner}
use Rattle.ios_lines.specs.declared.line.Line.{Line}
use Rattle.ios_lines.specs.declared.reading.Open.{Open}
use Rattle.ios_lines.specs.Texts.{part, HasWordsIn, IsLine, text_lines}
use Rattle.ios_lines.specs.Kinds.{kind_at, open_banner}
use Rattle.ios_lines.specs.Blocks.{IsOpenBlock, IsOrphan, IsUnclosed}
use Rattle.ios_lines.specs.Lines.{IsRow}

-- the number of the block that is open after the line of this kind and number, from that before it
abbrev pub block_after : Kind → ℕ → ℕ → ℕ
block_after Blank number block = block
block_after Comment number block = 0
block_after Remark number block = block
block_after Inner number block = block
block_after Single number block = 0
block_after Head number block = number
block_after Banner number block = 0

-- the number of the line that began the open banner, after the line of this number
abbrev pub first_after : Option Delimiter → ℕ → ℕ → ℕ
first_after None number first = number
first_after (Some delimiter) number first = first

-- a line of this kind has no block where this one is open
abbrev pub is_alone : Kind → ℕ → Bool
is_alone Blank block = false
is_alone Comment block = false
is_alone Remark block = false
is_alone Inner block = block == 0
is_alone Single block = false
is_alone Head block = false
is_alone Banner block = false

-- the first lines of the text end at a place, with this open after them, and none of them is an
-- orphan
pub record Stands (text : List ℕ) (at : ℕ) (state : Open) : Type 0 where
  pub within : at ≤ length text
  pub few : state.count ≤ at
  pub counted : state.count ≤ length (text_lines text)
  pub lines : drop state.count (text_lines text) ≡ text_lines (drop at text)
  pub banner : state.banner ≡ open_banner (take state.count (text_lines text))
  pub block : IsOpenBlock (kind_at (text_lines text)) state.count state.block
  pub first : IsSome state.banner → IsUnclosed (text_lines text) state.count state.first
  pub no_orphan : (place : ℕ) → place < state.count → ¬ IsOrphan (text_lines text) place

-- this is the next line, with what is open after it
pub record IsNext (text : List ℕ) (at : ℕ) (state : Open) (line : Line)
    (after : Open) : Type 0 where
  pub begins : line.span.from ≡ at
  pub ends : IsLine text at line.span.to line.end
  pub bytes :
      drop state.count (text_lines text) ≡ part text line.span ∷ drop after.count (text_lines text)
  pub row : IsRow text state.count line
  pub inside : HasWordsIn text line
  pub count : after.count ≡ state.count + 1
  pub stands : Stands text (line.span.to + line.end) after
