-- The commands of a file into which a line is inserted, seen from what its rows say.
use Rattle.std.specs.Prelude.{◌≡◌, ◌≢◌, ℕ, ◌+◌, ◌≤◌, ◌==◌, take, ◌↔◌, true, ◌||◌, not, Bool, false}
use Rattle.std.specs.Prelude.{if◌then◌else◌, nat_le, List, [], ◌∷◌, filter, map, Contains}
use Rattle.std.specs.Prelude.{MatchBool, length}
use Rattle.std.specs.List.{AllZip, enumerate_from}
use Rattle.ios_lines.specs.declared.line.Lines.{Lines}
use Rattle.ios_lines.specs.Texts.{text_lines}
use Rattle.arc_base.specs.Words.{words}
use Rattle.ios_lines.specs.Kinds.{IsInner, IsHead, IsSingle, IsClosing}
use Rattle.ios_lines.specs.Lines.{AreLinesOf}
use Rattle.ios_lines.specs.ChangeLaws.{CanBeCut}
use Rattle.ios_lines.specs.Views.{Mark, line_marks, open_block}
use Rattle.ios_lines.specs.Changes.{inserted, moved, mark_moved, MayStandAt}
use Rattle.ios_words.specs.declared.kinds.BlockKind.{BlockKind}
use Rattle.ios_words.specs.declared.kinds.BlockKind.TheVariants as kinds
use Rattle.ios_words.specs.declared.commands.Command.{Command}
use Rattle.ios_words.specs.Commands.{is_extended_block, ReadBy}
use Rattle.ios_words.specs.Language.{rows}
use Rattle.ios_config.specs.declared.commands.FileCommand.{FileCommand}
use Rattle.ios_config.specs.Commands.{opened_by, AreCommandsOf}

-- what rows say, with their numbers from 1
abbrev pub numbered_marks : List Mark → List (ℕ × Mark)
numbered_marks marks = enumerate_from 1 marks

-- those that are no comments, blank lines or lines of a banner
abbrev pub command_marks : List Mark → List (ℕ × Mark)
command_marks marks = filter (λ l. not l.1.inert) (numbered_marks marks)

-- the row of this number is read as a command that opens a block of this kind
pub record MarkOpens (marks : List Mark) (number : ℕ) (kind : BlockKind) : Type 0 where
  pub head : Mark
  pub at_number : Contains (numbered_marks marks) (number, head)
  pub command : Command
  pub reads : ReadBy false head.words (rows kinds.Top) command
  pub opens : kind ≡ opened_by command

-- a row that heads a block or belongs to none is a top line's
abbrev pub is_top_mark : Mark → Bool
is_top_mark m = m.head || (m.block == 0)

abbrev pub IsMarkWithin : List Mark → Mark → BlockKind → Type 0
IsMarkWithin marks m kind =
    MatchBool (is_top_mark m) (kind ≡ kinds.Top) (MarkOpens marks m.block kind)

-- the numbered row is read as this command of the file
pub record IsMarkRead (marks : List Mark) (l : ℕ × Mark) (c : FileCommand) : Type 0 where
  pub line : c.line ≡ l.0
  pub block : c.block ≡ l.1.block
  pub within : BlockKind
  pub stands : IsMarkWithin marks l.1 within
  pub reads : ReadBy (is_extended_block within) l.1.words (rows within) c.command

-- these are the commands of the rows
abbrev pub AreMarksRead : List Mark → List FileCommand → Type 0
AreMarksRead marks commands = AllZip (IsMarkRead marks) (command_marks marks) commands

-- the command with its numbers moved, where one line is inserted after `place` lines
abbrev pub command_moved : ℕ → FileCommand → FileCommand
command_moved place c =
    record { line = moved place c.line; block = moved place c.block; command = c.command }

-- the commands with one more, which comes before those of later lines
abbrev pub with_command : ℕ → FileCommand → List FileCommand → List FileCommand
with_command place c [] = c ∷ []
with_command place c (d ∷ commands) =
    if nat_le d.line place then command_moved place d ∷ with_command place c commands
    else c ∷ map (command_moved place) (d ∷ commands)

-- the rows of the new text are those of the old one and one more
pub record HasOneMore (old new : List ℕ) (lines more : Lines) (place : ℕ) (m : Mark) : Type 0 where
  pub within : place ≤ length (line_marks old lines)
  pub rows : line_marks new more ≡ inserted place m (map (mark_moved place) (line_marks old lines))

-- commands are those of a text exactly where they are those of what its rows say
abbrev pub CommandsAreOfMarks : Type 0
CommandsAreOfMarks =
    (text : List ℕ) (lines : Lines) (commands : List FileCommand) →
    AreCommandsOf text lines commands ↔ AreMarksRead (line_marks text lines) commands

-- a row that says nothing leaves the commands, except for their numbers
abbrev pub AnInertLineLeavesCommands : Type 0
AnInertLineLeavesCommands =
    (old new : List ℕ) (lines more : Lines) (place : ℕ) (m : Mark) (commands : List FileCommand) →
    HasOneMore old new lines more place m → m.inert ≡ true → AreCommandsOf old lines commands →
    AreCommandsOf new more (map (command_moved place) commands)

-- a row that is read as a command adds it to them
abbrev pub AnInsertedLineAddsItsCommand : Type 0
AnInsertedLineAddsItsCommand =
    (old new : List ℕ) (lines more : Lines) (place : ℕ) (m : Mark) (c : FileCommand)
    (commands : List FileCommand) → HasOneMore old new lines more place m → m.inert ≡ false →
    IsMarkRead (line_marks new more) (place + 1, m) c → AreCommandsOf old lines commands →
    AreCommandsOf new more (with_command place c commands)

-- a command of this line and block
abbrev pub command_at : ℕ → ℕ → Command → FileCommand
command_at line block command = record { line = line; block = block; command = command }

-- a line is inserted where it is allowed
pub record IsPut (old new : List ℕ) (place : ℕ) (line : List ℕ) : Type 0 where
  pub may : MayStandAt (text_lines old) place line
  pub new_lines : text_lines new ≡ inserted place line (text_lines old)
  pub cut : CanBeCut old

-- the texts have these lines, and the old one these commands
pub record HaveLines (old new : List ℕ) (lines more : Lines)
    (commands : List FileCommand) : Type 0 where
  pub old_lines : AreLinesOf old lines
  pub new_lines : AreLinesOf new more
  pub reads : AreCommandsOf old lines commands

-- one of the commands heads the block of this number, in which lines are read by the rows of this
-- kind
pub record Opened (commands : List FileCommand) (block : ℕ) (within : BlockKind) : Type 0 where
  pub head : FileCommand
  pub among : Contains commands head
  pub line : head.line ≡ block
  pub opens : opened_by head.command ≡ within
  pub known : within ≢ kinds.Inert

-- a line of the block that is open adds its command to it
abbrev pub AnInnerLineAddsItsCommand : Type 0
AnInnerLineAddsItsCommand =
    (old new : List ℕ) (lines more : Lines) (commands : List FileCommand) (place : ℕ)
    (line : List ℕ) (within : BlockKind) (command : Command) → IsPut old new place line →
    HaveLines old new lines more commands → IsInner line →
    Opened commands (open_block (take place (text_lines old))) within →
    ReadBy (is_extended_block within) (words line) (rows within) command →
    AreCommandsOf new more (with_command place
    (command_at (place + 1) (open_block (take place (text_lines old))) command) commands)

-- a top line that heads a block adds its command as that block's first
abbrev pub AHeadAddsItsCommand : Type 0
AHeadAddsItsCommand =
    (old new : List ℕ) (lines more : Lines) (commands : List FileCommand) (place : ℕ)
    (line : List ℕ) (command : Command) → IsPut old new place line →
    HaveLines old new lines more commands → IsHead line →
    ReadBy false (words line) (rows kinds.Top) command →
    AreCommandsOf new more
    (with_command place (command_at (place + 1) (place + 1) command) commands)

-- a top line that heads none adds its command outside of blocks
abbrev pub ASingleLineAddsItsCommand : Type 0
ASingleLineAddsItsCommand =
    (old new : List ℕ) (lines more : Lines) (commands : List FileCommand) (place : ℕ)
    (line : List ℕ) (command : Command) → IsPut old new place line →
    HaveLines old new lines more commands → IsSingle line →
    ReadBy false (words line) (rows kinds.Top) command →
    AreCommandsOf new more (with_command place (command_at (place + 1) 0 command) commands)

-- a line that only closes a block adds none
abbrev pub AClosingLineAddsNone : Type 0
AClosingLineAddsNone =
    (old new : List ℕ) (lines more : Lines) (commands : List FileCommand) (place : ℕ)
    (line : List ℕ) → IsPut old new place line → HaveLines old new lines more commands →
    IsClosing line → AreCommandsOf new more (map (command_moved place) commands)
