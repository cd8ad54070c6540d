-- The lines of a router file.
use Rattle.std.specs.Prelude.{◌≡◌, ℕ, ◌+◌, List, length, map, slice_get, Some, All}
use Rattle.ios_lines.specs.declared.line.Line.{Line}
use Rattle.ios_lines.specs.declared.line.Lines.{Lines}
use Rattle.ios_lines.specs.declared.cutting.LineFault.{LineFault}
use Rattle.ios_lines.specs.declared.cutting.LineFault.TheVariants.{Orphan, OpenBanner, Memory}
use Rattle.ios_lines.specs.Texts.{part, HasWordsIn, Join, bytes_of, text_lines}
use Rattle.ios_lines.specs.Words.{AreWords}
use Rattle.arc_base.specs.Words.{words}
use Rattle.ios_lines.specs.Kinds.{kind_at, is_head, is_inert}
use Rattle.ios_lines.specs.Blocks.{IsOpenBlock, IsFirstOrphan, IsUnclosed}

-- the line at a place has its words, and its marks say its block and its kind
pub record IsRow (text : List ℕ) (place : ℕ) (line : Line) : Type 0 where
  pub spans : AreWords text line.span.from line.span.to line.words
  pub texts : map (part text) line.words ≡ words (part text line.span)
  pub block : IsOpenBlock (kind_at (text_lines text)) (place + 1) line.block
  pub head : line.head ≡ is_head (kind_at (text_lines text) place)
  pub inert : line.inert ≡ is_inert (kind_at (text_lines text) place)

-- these are the lines of the text: they join to it with their ends, their words lie in it, and each
-- has its words and its marks
pub record AreLinesOf (text : List ℕ) (lines : Lines) : Type 0 where
  pub join : Join text 0 lines.rows
  pub texts : bytes_of text lines.rows ≡ text_lines text
  pub inside : All (HasWordsIn text) lines.rows
  pub rows : (place : ℕ) (line : Line) → slice_get lines.rows place ≡ Some line →
      IsRow text place line

-- the line of this number is the first that ought to belong to a block and has none
abbrev pub HasOrphanAt : List ℕ → ℕ → Type 0
HasOrphanAt text number = IsFirstOrphan (text_lines text) number

-- the line of this number begins a banner that does not end
abbrev pub HasOpenBannerAt : List ℕ → ℕ → Type 0
HasOpenBannerAt text number = IsUnclosed (text_lines text) (length (text_lines text)) number

-- the fault is the first of the text, or out of memory
abbrev pub IsFaultOfText : List ℕ → LineFault → Type 0
IsFaultOfText text (Orphan number) = HasOrphanAt text number
IsFaultOfText text (OpenBanner number) =
    HasOpenBannerAt text number × ((other : ℕ) → ¬ HasOrphanAt text other)
IsFaultOfText text Memory = Unit {0}
