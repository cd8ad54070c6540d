-- Laws over the definitions alone.
use Rattle.std.specs.Prelude.{◌≡◌, ℕ, ◌+◌, ◌<◌, ◌≤◌, ◌↔◌, List, [], length, take, flat_map}
use Rattle.std.specs.Prelude.{slice_index_or, slice_range, Some, None, IsFalse}
use Rattle.ios_lines.specs.declared.banner.Delimiter.{Delimiter}
use Rattle.ios_lines.specs.declared.line.Lines.{Lines}
use Rattle.ios_lines.specs.Banners.{stands}
use Rattle.ios_lines.specs.Kinds.{kind, opened, open_banner}
use Rattle.ios_lines.specs.Lines.{AreLinesOf}

-- a text has at most one list of lines
abbrev pub LinesAreOneList : Type 0
LinesAreOneList =
    (text : List ℕ) (one two : Lines) → AreLinesOf text one → AreLinesOf text two → one ≡ two

-- the lines of a text with their ends, joined, are the text
abbrev pub LinesJoin : Type 0
LinesJoin =
    (text : List ℕ) (lines : Lines) → AreLinesOf text lines →
    flat_map (λ line. slice_range text line.span.from (line.span.to + line.end)) lines.rows ≡ text

-- the line at a place, which is in no banner itself, begins one of this delimiter, which occurs in
-- none of the lines after it and before another place
pub record Begins (lines : List (List ℕ)) (place : ℕ) (delimiter : Delimiter)
    (first : ℕ) : Type 0 where
  pub before : first < place
  pub alone : open_banner (take first lines) ≡ None
  pub begins :
      opened (kind (slice_index_or lines first [])) (slice_index_or lines first []) ≡ Some delimiter
  pub apart : (between : ℕ) → first < between → between < place →
      IsFalse (stands delimiter (slice_index_or lines between []))

-- a banner is open before a place exactly if one begins before that and its delimiter does not
-- occur again
abbrev pub BannersEndAtTheirDelimiter : Type 0
BannersEndAtTheirDelimiter =
    (lines : List (List ℕ)) (place : ℕ) (delimiter : Delimiter) → place ≤ length lines →
    (open_banner (take place lines) ≡ Some delimiter) ↔
    ((first : ℕ) × Begins lines place delimiter first)
