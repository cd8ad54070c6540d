-- Laws over texts of which a line changes.
use Rattle.std.specs.Prelude.{◌≡◌, ◌≢◌, ℕ, ◌+◌, ◌<◌, ◌≤◌, ◌⊎◌, List, ◌∷◌, ◌++◌, length, map, take}
use Rattle.std.specs.Prelude.{slice_get, Some, None, true, false, IsTrue}
use Rattle.std.specs.List.{AllByRecursion}
use Rattle.ios_lines.specs.declared.line.Lines.{Lines}
use Rattle.ios_lines.specs.Texts.{text_lines}
use Rattle.arc_base.specs.Words.{words}
use Rattle.ios_lines.specs.Kinds.{closes, kind_at, open_banner, IsInner, IsHead, IsSingle}
use Rattle.ios_lines.specs.Kinds.{IsClosing}
use Rattle.ios_lines.specs.Lines.{AreLinesOf, HasOrphanAt, HasOpenBannerAt}
use Rattle.ios_lines.specs.Views.{Mark, line_marks, mark_seen, seen, open_block}
use Rattle.ios_lines.specs.Changes.{Change, lines_after_all, marks_after_all, MayAllCome, inserted}
use Rattle.ios_lines.specs.Changes.{changed, replaced, mark_moved, mark_worded, MayStandAt}
use Rattle.ios_lines.specs.Changes.{MayReplaceAt, seen_there}
use Rattle.ios_lines.specs.Ended.{IsEnded, Ended, text_of, AreEnded, ended_lines}

-- no line of the text is an orphan, and each banner ends
pub record CanBeCut (text : List ℕ) : Type 0 where
  pub no_orphan : (number : ℕ) → ¬ HasOrphanAt text number
  pub no_open_banner : (number : ℕ) → ¬ HasOpenBannerAt text number

-- the rows of a text say what its lines are seen to say
abbrev pub RowsAreSeen : Type 0
RowsAreSeen =
    (text : List ℕ) (lines : Lines) → AreLinesOf text lines →
    line_marks text lines ≡ map mark_seen (seen (text_lines text))

-- the text that ended lines make has these lines
abbrev pub EndedLinesAreLines : Type 0
EndedLinesAreLines =
    (lines : List Ended) → AreEnded lines → text_lines (text_of lines) ≡ map (λ l. l.line) lines

-- ended lines make this text, and are its lines
pub record Make (text : List ℕ) (lines : List Ended) : Type 0 where
  pub ended : AreEnded lines
  pub made : text_of lines ≡ text
  pub same : map (λ l. l.line) lines ≡ text_lines text

-- each text is made of ended lines
abbrev pub RowsAreEnded : Type 0
RowsAreEnded =
    (text : List ℕ) (lines : Lines) → AreLinesOf text lines → Make text (ended_lines text lines)

-- what is known of the places before and after a line that says something
pub record IsPlaceOf (lines : List (List ℕ)) (place : ℕ) (m : Mark) : Type 0 where
  pub within : place < length lines
  pub before : open_banner (take place lines) ≡ None
  pub after : open_banner (take (place + 1) lines) ≡ None
  pub block : open_block (take (place + 1) lines) ≡ m.block
  pub closing : (m.head ≡ true) ⊎ (m.block ≡ 0) → IsTrue (closes (kind_at lines place))
  pub inner : m.head ≡ false → (m.block ≡ 0 → ⊥) → open_block (take place lines) ≡ m.block
  pub own : m.head ≡ true → m.block ≡ place + 1

-- the row of a line says what is open before it and after it
abbrev pub RowsTellPlaces : Type 0
RowsTellPlaces =
    (text : List ℕ) (lines : Lines) (place : ℕ) (m : Mark) → AreLinesOf text lines → CanBeCut text →
    slice_get (line_marks text lines) place ≡ Some m → m.inert ≡ false →
    IsPlaceOf (text_lines text) place m

-- the new text has the rows of the old one and the inserted line's between them, which is in the
-- block that is open there; the numbers of the other lines' blocks are moved
pub record HasInserted (old new : List ℕ) (place : ℕ) (line : List ℕ) : Type 0 where
  pub cut : CanBeCut new
  pub rows : (lines more : Lines) → AreLinesOf old lines → AreLinesOf new more →
      line_marks new more ≡ inserted place (mark_seen (seen_there (text_lines old) place line))
      (map (mark_moved place) (line_marks old lines))

-- a line that is inserted where it is allowed leaves the others
abbrev pub AnInsertedLineStands : Type 0
AnInsertedLineStands =
    (old new : List ℕ) (place : ℕ) (line : List ℕ) → MayStandAt (text_lines old) place line →
    text_lines new ≡ inserted place line (text_lines old) → CanBeCut old →
    HasInserted old new place line

-- the new text has the rows of the old one, with other words at one place
pub record HasReplaced (old new : List ℕ) (place : ℕ) (line : List ℕ) : Type 0 where
  pub cut : CanBeCut new
  pub rows : (lines more : Lines) → AreLinesOf old lines → AreLinesOf new more →
      line_marks new more ≡ changed place (mark_worded (words line)) (line_marks old lines)

-- a line that takes the place of another of its kind leaves all but that line's words
abbrev pub AReplacedLineStands : Type 0
AReplacedLineStands =
    (old new : List ℕ) (place : ℕ) (line : List ℕ) → MayReplaceAt (text_lines old) place line →
    text_lines new ≡ replaced place line (text_lines old) → CanBeCut old →
    HasReplaced old new place line

-- the new text has the rows that the changes leave
pub record HasChanged (old new : List ℕ) (changes : List Change) : Type 0 where
  pub cut : CanBeCut new
  pub rows : (lines more : Lines) → AreLinesOf old lines → AreLinesOf new more →
      line_marks new more ≡ marks_after_all changes (text_lines old) (line_marks old lines)

-- changes that may come one after another leave all else
abbrev pub SeveralChangesStand : Type 0
SeveralChangesStand =
    (old new : List ℕ) (changes : List Change) → MayAllCome changes (text_lines old) →
    text_lines new ≡ lines_after_all changes (text_lines old) → CanBeCut old →
    HasChanged old new changes

-- lines that are ended come before others so
abbrev pub EndedLinesJoin : Type 0
EndedLinesJoin =
    (front back : List Ended) → AllByRecursion IsEnded front → AreEnded back →
    AreEnded (front ++ back)

-- and only a last line has no end
abbrev pub EndedLinesPart : Type 0
EndedLinesPart =
    (front : List Ended) (line : Ended) (back : List Ended) → AreEnded (front ++ line ∷ back) →
    AllByRecursion IsEnded front × AreEnded (line ∷ back)

-- a line of a block is allowed where one is open
abbrev pub InnerLinesMayStand : Type 0
InnerLinesMayStand =
    (lines : List (List ℕ)) (place : ℕ) (line : List ℕ) → place ≤ length lines →
    open_banner (take place lines) ≡ None → open_block (take place lines) ≢ 0 → IsInner line →
    MayStandAt lines place line

-- a top line or a closing one is allowed before one that closes blocks, and at the end
abbrev pub TopLinesMayStand : Type 0
TopLinesMayStand =
    (lines : List (List ℕ)) (place : ℕ) (line : List ℕ) → place ≤ length lines →
    open_banner (take place lines) ≡ None →
    (place < length lines → IsTrue (closes (kind_at lines place))) →
    IsHead line ⊎ (IsSingle line ⊎ IsClosing line) → MayStandAt lines place line

-- the row that a block is named by heads it
pub record HasHead (marks : List Mark) (block : ℕ) : Type 0 where
  pub place : ℕ
  pub head : Mark
  pub number : block ≡ place + 1
  pub at_place : slice_get marks place ≡ Some head
  pub heads : head.head ≡ true

-- each row in a block has the row that heads it
abbrev pub BlocksHaveHeads : Type 0
BlocksHaveHeads =
    (text : List ℕ) (lines : Lines) (place : ℕ) (m : Mark) → AreLinesOf text lines →
    slice_get (line_marks text lines) place ≡ Some m → m.block ≢ 0 →
    HasHead (line_marks text lines) m.block
