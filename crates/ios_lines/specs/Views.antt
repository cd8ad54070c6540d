-- What the lines of a text are, seen from the lines alone: each with its kind and its block.
use Rattle.std.specs.Prelude.{ℕ, ◌+◌, Bool, List, [], ◌∷◌, map, Option, None}
use Rattle.ios_lines.specs.declared.banner.Delimiter.{Delimiter}
use Rattle.ios_lines.specs.declared.kind.Kind.{Kind}
use Rattle.ios_lines.specs.declared.line.Line.{Line}
use Rattle.ios_lines.specs.declared.line.Lines.{Lines}
use Rattle.ios_lines.specs.Texts.{part}
use Rattle.arc_base.specs.Words.{words}
use Rattle.ios_lines.specs.Kinds.{after_line, is_head, is_inert, kind_within}
use Rattle.ios_lines.specs.Reading.{block_after}

-- a line with its kind, and the number of the line that heads its block, or 0
pub record Seen : Type 0 where
  pub bytes : List ℕ
  pub kind : Kind
  pub block : ℕ

-- a line of this number and kind, where the block of this number is open before it, or none and the
-- number is 0
abbrev pub seen_in : ℕ → List ℕ → Kind → ℕ → Seen
seen_in number line kind block =
    record { bytes = line; kind = kind; block = block_after kind number block }

-- the lines after `count` others, where this banner is open before them, and this block
abbrev pub seen_from : ℕ → Option Delimiter → ℕ → List (List ℕ) → List Seen
seen_from count banner block [] = []
seen_from count banner block (line ∷ lines) =
    seen_in (count + 1) line (kind_within banner line) block ∷
    seen_from (count + 1) (after_line banner line)
    (block_after (kind_within banner line) (count + 1) block) lines

-- each of these lines with its kind and its block
abbrev pub seen : List (List ℕ) → List Seen
seen lines = seen_from 0 None 0 lines

-- the number of the block that is open after these lines, where `count` lines, this banner and this
-- block come before them
abbrev pub open_from : ℕ → Option Delimiter → ℕ → List (List ℕ) → ℕ
open_from count banner block [] = block
open_from count banner block (line ∷ lines) =
    open_from (count + 1) (after_line banner line)
    (block_after (kind_within banner line) (count + 1) block) lines

-- the number of the line that heads the block that is open after these lines, or 0
abbrev pub open_block : List (List ℕ) → ℕ
open_block lines = open_from 0 None 0 lines

-- what a line says, wherever it is in its text: its words, its block, and whether it heads one or
-- is inert
pub record Mark : Type 0 where
  pub words : List (List ℕ)
  pub block : ℕ
  pub head : Bool
  pub inert : Bool

-- what a row of the lines of a text says
abbrev pub mark_of : List ℕ → Line → Mark
mark_of text line = record {
  words = map (part text) line.words;
  block = line.block;
  head = line.head;
  inert = line.inert;
}

abbrev pub line_marks : List ℕ → Lines → List Mark
line_marks text lines = map (mark_of text) lines.rows

-- what a line says that is seen so
abbrev pub mark_seen : Seen → Mark
mark_seen s = record {
  words = words s.bytes;
  block = s.block;
  head = is_head s.kind;
  inert = is_inert s.kind;
}
