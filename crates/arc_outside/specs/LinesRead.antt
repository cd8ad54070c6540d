-- Files that are read line by line.
use Rattle.std.specs.Prelude.{◌≡◌, ℕ, ◌+◌, ◌-◌, ◌≤◌, ◌<◌, List, [], ◌++◌, length, drop, Bool, true}
use Rattle.std.specs.Prelude.{false, Option, None, IsSomeAnd, unwrap_or, Result, Ok, Err}
use Rattle.arc_outside.specs.Lines.{IsFirstLine}
use Rattle.arc_outside.specs.declared.fault.Fault.TheVariants.{Memory, Missing, Failed}
use Rattle.arc_outside.specs.declared.reading.ReadAll.{ReadAll}
use Rattle.arc_outside.specs.declared.reading.ReadAll.TheVariants.{Fault as fault, TooLong}
use Rattle.arc_outside.specs.declared.pieces.Pieces.{Pieces}

-- What of a file, with these bytes or with none, is in no line yet: what was read and not returned,
-- and what was not read.
abbrev pub left : Pieces → Option (List ℕ) → List ℕ
left p file = p.window ++ drop p.place (unwrap_or file [])

-- how many bytes the reader may still hand out: those in its window, and those that the limit lets
-- it read
abbrev pub ahead : Pieces → ℕ
ahead p = p.limit - p.place + length p.window

-- What the reader may still return shrinks by the bytes of the line, and by its line feed if it has
-- one: each byte that was read has been returned or is in the window.
pub record HandsOut (before after : Pieces) : Type 0 where
  pub line : ahead after + length after.line.items ≤ ahead before
  pub feed : ahead before ≤ ahead after + length after.line.items + 1

-- What moving to the next line answers: that there is one, the first of what was left; that nothing
-- was left, of a file within the limit; TooLong where the file is longer; Missing where it holds
-- nothing.
abbrev pub ReadsLine : Option (List ℕ) → Pieces → Pieces → Result Bool ReadAll → Type 0
ReadsLine file before after (Ok true) =
    IsFirstLine (left before file) after.line.items (left after file)
ReadsLine file before after (Ok false) =
    (left before file ≡ []) ×
    ((left after file ≡ []) × IsSomeAnd file (λ bytes. length bytes ≤ before.limit))
ReadsLine file before after (Err TooLong) = IsSomeAnd file (λ bytes. before.limit < length bytes)
ReadsLine file before after (Err (fault Missing)) = file ≡ None
ReadsLine file before after (Err (fault Failed)) = Unit {0}
ReadsLine file before after (Err (fault Memory)) = Unit {0}
