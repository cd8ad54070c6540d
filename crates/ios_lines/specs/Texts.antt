-- How the bytes of a router file fall into lines.
use Rattle.std.specs.Prelude.{◌≡◌, ◌≢◌, ℕ, zero, suc, ◌+◌, ◌-◌, ◌<◌, ◌≤◌, List, [], ◌∷◌, length}
use Rattle.std.specs.Prelude.{map, slice_index, slice_range, All}
use Rattle.arc_base.specs.declared.span.Span.{Span}
use Rattle.bstr.specs.Text.{lines_of, without_terminator}
use Rattle.ios_lines.specs.declared.line.Line.{Line}

-- the bytes of a text that a span covers
abbrev pub part : List ℕ → Span → List ℕ
part text span = slice_range text span.from span.to

-- the span lies in the text
abbrev pub LiesInText : List ℕ → Span → Type 0
LiesInText text span = (span.from ≤ span.to) × (span.to ≤ length text)

-- the words of the line lie in the text
abbrev pub HasWordsIn : List ℕ → Line → Type 0
HasWordsIn text line = All (LiesInText text) line.words

-- no byte between the two places is a line feed
abbrev pub HasNoFeed : List ℕ → ℕ → ℕ → Type 0
HasNoFeed text from to = (place : ℕ) → from ≤ place → place < to → slice_index text place ≢ 10

-- a line's end of this many bytes: none at the end of the text, a line feed with no carriage return
-- of the line before it, or both
abbrev pub IsEnd : List ℕ → ℕ → ℕ → ℕ → Type 0
IsEnd text from to zero = (to ≡ length text) × (from < to)
IsEnd text from to (suc zero) =
    (to < length text) × (slice_index text to ≡ 10) × (from < to → slice_index text (to - 1) ≢ 13)
IsEnd text from to (suc (suc zero)) =
    (to + 1 < length text) × (slice_index text to ≡ 13) × (slice_index text (to + 1) ≡ 10)
IsEnd text from to (suc (suc (suc more))) = ⊥

-- a line of the text lies between two places, with an end of this many bytes after it
pub record IsLine (text : List ℕ) (from to end : ℕ) : Type 0 where
  pub ordered : from ≤ to
  pub no_feed : HasNoFeed text from to
  pub ending : IsEnd text from to end

-- the lines begin at a place, each other where the one before it ends, and the last one ends with
-- the text
abbrev pub Join : List ℕ → ℕ → List Line → Type 0
Join text at [] = at ≡ length text
Join text at (line ∷ lines) =
    (line.span.from ≡ at) × IsLine text at line.span.to line.end ×
    Join text (line.span.to + line.end) lines

-- the bytes of each line
abbrev pub bytes_of : List ℕ → List Line → List (List ℕ)
bytes_of text lines = map (λ line. part text line.span) lines

-- the lines of a text without their ends
abbrev pub text_lines : List ℕ → List (List ℕ)
text_lines text = map without_terminator (lines_of text)
