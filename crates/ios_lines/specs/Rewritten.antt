-- Lines of which one word is another.
use Rattle.std.specs.Prelude.{◌≡◌, ◌≢◌, ℕ, ◌≤◌, ◌⊎◌, List, ◌++◌, map, slice_get, slice_range, Some}
use Rattle.std.specs.Prelude.{false, IsTrue, IsFalse}
use Rattle.arc_base.specs.declared.span.Span.{Span}
use Rattle.ios_lines.specs.declared.line.Line.{Line}
use Rattle.ios_lines.specs.declared.line.Lines.{Lines}
use Rattle.ios_lines.specs.Texts.{part, text_lines}
use Rattle.arc_base.specs.Words.{words}
use Rattle.ios_lines.specs.Kinds.{is_mark}
use Rattle.ios_lines.specs.Lines.{AreLinesOf}
use Rattle.ios_lines.specs.Ended.{IsFree, HasNoReturn}
use Rattle.ios_lines.specs.Changes.{replaced, MayReplaceAt}
use Rattle.ios_lines.specs.ChangeLaws.{CanBeCut}
use Rattle.ios_lines.specs.Written.{is_plain}

-- the bytes of a line of the text, with others in place of those of a word
abbrev pub rewritten : List ℕ → Line → Span → List ℕ → List ℕ
rewritten text row span other =
    slice_range text row.span.from span.from ++ (other ++ slice_range text span.to row.span.to)

-- The word may be another and leave the line's kind: it is the third or a later one, or the first
-- of a line in a block.
abbrev pub MayBeOther : Line → ℕ → List ℕ → Type 0
MayBeOther row k other =
    (2 ≤ k) ⊎ ((k ≡ 0) × (row.head ≡ false) × (row.block ≢ 0) × IsFalse (is_mark other))

-- the new line may take the old one's place, and has its words except for one
pub record IsRewritten (text : List ℕ) (place : ℕ) (row : Line) (k : ℕ) (span : Span)
    (other : List ℕ) : Type 0 where
  pub may : MayReplaceAt (text_lines text) place (rewritten text row span other)
  pub words : words (rewritten text row span other) ≡ replaced k other (map (part text) row.words)
  pub free : IsFree (rewritten text row span other)
  pub no_return : HasNoReturn (part text row.span) → HasNoReturn (rewritten text row span other)

-- a plain word may replace another
abbrev pub AWordMayBeReplaced : Type 0
AWordMayBeReplaced =
    (text : List ℕ) (lines : Lines) (place : ℕ) (row : Line) (k : ℕ) (span : Span)
    (other : List ℕ) → AreLinesOf text lines → CanBeCut text →
    slice_get lines.rows place ≡ Some row → row.inert ≡ false → slice_get row.words k ≡ Some span →
    IsTrue (is_plain other) → MayBeOther row k other → IsRewritten text place row k span other
