-- Texts in which a line is inserted or replaced.
use Rattle.std.specs.Prelude.{◌≡◌, ◌≢◌, ℕ, zero, suc, ◌+◌, ◌<◌, ◌≤◌, List, [], ◌∷◌, ◌++◌, length}
use Rattle.std.specs.Prelude.{take, drop, map, None, if◌then◌else◌, nat_le, IsTrue}
use Rattle.ios_lines.specs.declared.kind.Kind.TheVariants.{Inner, Banner}
use Rattle.ios_lines.specs.Kinds.{closes, kind, kind_at, open_banner}
use Rattle.arc_base.specs.Words.{words}
use Rattle.ios_lines.specs.Views.{mark_seen, Seen, Mark, open_block, seen_in}

-- the list with an item inserted before the item at a place, or at its end
abbrev pub inserted : {A : Type 0} → ℕ → A → List A → List A
inserted place item items = take place items ++ item ∷ drop place items

-- the number of a line of the old text in the new one, where one line is inserted after `place`
-- lines
abbrev pub moved : ℕ → ℕ → ℕ
moved place number = if nat_le number place then number else number + 1

-- the line with the number of its block moved
abbrev pub seen_moved : ℕ → Seen → Seen
seen_moved place s = record { bytes = s.bytes; kind = s.kind; block = moved place s.block }

abbrev pub mark_moved : ℕ → Mark → Mark
mark_moved place m =
    record { words = m.words; block = moved place m.block; head = m.head; inert = m.inert }

-- A line may be inserted between lines, at a place that is in no banner. It is no banner line
-- itself. Where it closes the open block, so does the line that it is inserted before, if there is
-- one; where it belongs to a block, one is open.
pub record MayStandAt (lines : List (List ℕ)) (place : ℕ) (line : List ℕ) : Type 0 where
  pub within : place ≤ length lines
  pub outside : open_banner (take place lines) ≡ None
  pub no_banner : kind line ≢ Banner
  pub closing : IsTrue (closes (kind line)) → place < length lines →
      IsTrue (closes (kind_at lines place))
  pub inner : kind line ≡ Inner → open_block (take place lines) ≢ 0

-- what the inserted line is, in its place
abbrev pub seen_there : List (List ℕ) → ℕ → List ℕ → Seen
seen_there lines place line = seen_in (place + 1) line (kind line) (open_block (take place lines))

-- the list with the item at a place changed
abbrev pub changed : {A : Type 0} → ℕ → (A → A) → List A → List A
changed place change [] = []
changed zero change (item ∷ items) = change item ∷ items
changed (suc place) change (item ∷ items) = item ∷ changed place change items

-- the list with another item at a place
abbrev pub replaced : {A : Type 0} → ℕ → A → List A → List A
replaced place item items = changed place (λ _. item) items

-- a line may take the place of another of its kind, which is no banner line
pub record MayReplaceAt (lines : List (List ℕ)) (place : ℕ) (line : List ℕ) : Type 0 where
  pub within : place < length lines
  pub outside : open_banner (take place lines) ≡ None
  pub no_banner : kind line ≢ Banner
  pub alike : kind_at lines place ≡ kind line

-- the same with other bytes, and the same with other words
abbrev pub seen_written : List ℕ → Seen → Seen
seen_written bytes s = record { bytes = bytes; kind = s.kind; block = s.block }

abbrev pub mark_worded : List (List ℕ) → Mark → Mark
mark_worded words m = record { words = words; block = m.block; head = m.head; inert = m.inert }

-- a change of one line: a line is inserted before the line at a place, or replaces it
pub data Change : Type 0 where
  Insert : (place : ℕ) (line : List ℕ) → Change
  Write : (place : ℕ) (line : List ℕ) → Change

-- the lines after a change, and after several, each of the lines that those before it leave
abbrev pub lines_after : Change → List (List ℕ) → List (List ℕ)
lines_after (Insert place line) lines = inserted place line lines
lines_after (Write place line) lines = replaced place line lines

abbrev pub lines_after_all : List Change → List (List ℕ) → List (List ℕ)
lines_after_all [] lines = lines
lines_after_all (change ∷ changes) lines = lines_after_all changes (lines_after change lines)

-- each change may be made where it comes
abbrev pub MayCome : Change → List (List ℕ) → Type 0
MayCome (Insert place line) lines = MayStandAt lines place line
MayCome (Write place line) lines = MayReplaceAt lines place line

abbrev pub MayAllCome : List Change → List (List ℕ) → Type 0
MayAllCome [] lines = Unit {0}
MayAllCome (change ∷ changes) lines =
    MayCome change lines × MayAllCome changes (lines_after change lines)

-- what the rows say after a change of these lines, and after several
abbrev pub marks_after : Change → List (List ℕ) → List Mark → List Mark
marks_after (Insert place line) lines marks =
    inserted place (mark_seen (seen_there lines place line)) (map (mark_moved place) marks)
marks_after (Write place line) lines marks = changed place (mark_worded (words line)) marks

abbrev pub marks_after_all : List Change → List (List ℕ) → List Mark → List Mark
marks_after_all [] lines marks = marks
marks_after_all (change ∷ changes) lines marks =
    marks_after_all changes (lines_after change lines) (marks_after change lines marks)
