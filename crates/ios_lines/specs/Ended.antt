-- Lines with their ends, and the text that they make.
use Rattle.std.specs.Prelude.{◌≡◌, ◌≢◌, ℕ, ◌+◌, ◌-◌, ◌<◌, ◌⊎◌, List, [], ◌∷◌, ◌++◌, length, map}
use Rattle.std.specs.Prelude.{flat_map, slice_index, slice_range}
use Rattle.ios_lines.specs.declared.line.Line.{Line}
use Rattle.ios_lines.specs.declared.line.Lines.{Lines}
use Rattle.ios_lines.specs.Texts.{part}

-- the bytes of a line, and those that end it
pub record Ended : Type 0 where
  pub line : List ℕ
  pub end : List ℕ

-- the text that the lines make
abbrev pub text_of : List Ended → List ℕ
text_of lines = flat_map (λ l. l.line ++ l.end) lines

-- no byte of the line is a line feed
abbrev pub IsFree : List ℕ → Type 0
IsFree line = (place : ℕ) → place < length line → slice_index line place ≢ 10

-- the line does not end with a carriage return
abbrev pub HasNoReturn : List ℕ → Type 0
HasNoReturn line = 0 < length line → slice_index line (length line - 1) ≢ 13

-- the line is ended by a line feed, with a carriage return before it or none
pub record IsEnded (l : Ended) : Type 0 where
  pub free : IsFree l.line
  pub ends : ((l.end ≡ 10 ∷ []) × HasNoReturn l.line) ⊎ (l.end ≡ 13 ∷ 10 ∷ [])

-- the line has some bytes and no end
pub record IsUnended (l : Ended) : Type 0 where
  pub free : IsFree l.line
  pub none : l.end ≡ []
  pub some : 0 < length l.line

-- each line is ended, and the last may have no end
abbrev pub AreEnded : List Ended → Type 0
AreEnded [] = Unit {0}
AreEnded (l ∷ []) = IsEnded l ⊎ IsUnended l
AreEnded (l ∷ m ∷ lines) = IsEnded l × AreEnded (m ∷ lines)

-- a row of a text with its end
abbrev pub ended_row : List ℕ → Line → Ended
ended_row text line = record {
  line = part text line.span;
  end = slice_range text line.span.to (line.span.to + line.end);
}

-- the lines of a text with their ends
abbrev pub ended_lines : List ℕ → Lines → List Ended
ended_lines text lines = map (ended_row text) lines.rows
