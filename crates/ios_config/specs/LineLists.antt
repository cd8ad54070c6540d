-- The commands of a list of lines, and what a line more does to them. Several changes of a text are
-- taken one by one over its lines.
use Rattle.std.specs.Prelude.{◌≡◌, ℕ, ◌+◌, ◌↔◌, false, List, [], ◌∷◌, ◌++◌, map, take, Contains}
use Rattle.ios_lines.specs.declared.line.Lines.{Lines}
use Rattle.ios_lines.specs.Texts.{text_lines}
use Rattle.arc_base.specs.Words.{words}
use Rattle.ios_lines.specs.Blocks.{IsOrphan}
use Rattle.ios_lines.specs.Kinds.{IsInner, IsHead, IsSingle, IsClosing}
use Rattle.ios_lines.specs.Lines.{AreLinesOf}
use Rattle.ios_lines.specs.Views.{Mark, mark_seen, seen, open_block}
use Rattle.ios_lines.specs.Changes.{inserted, MayStandAt}
use Rattle.ios_words.specs.declared.kinds.BlockKind.{BlockKind}
use Rattle.ios_words.specs.declared.kinds.BlockKind.TheVariants as kinds
use Rattle.ios_words.specs.declared.commands.Command.{Command}
use Rattle.ios_words.specs.Commands.{is_extended_block, ReadBy}
use Rattle.ios_words.specs.Language.{rows}
use Rattle.ios_config.specs.declared.commands.FileCommand.{FileCommand}
use Rattle.ios_config.specs.Appended.{HasBlock, IsLineOf}
use Rattle.ios_config.specs.Bare.{bare, bare_config, HasOneOther}
use Rattle.ios_config.specs.Commands.{AreCommandsOf}
use Rattle.ios_config.specs.Groups.{Part, Block, part_in, part_of, members}
use Rattle.ios_config.specs.Effects.{Split}
use Rattle.ios_config.specs.Joined.{part_moved}
use Rattle.ios_config.specs.Prepended.{IsInBlock}
use Rattle.ios_config.specs.Inserted.{AreMarksRead, Opened, command_moved, command_at, with_command}
use Rattle.ios_config.specs.Texts.{config_of}

-- what lines say
abbrev pub marks_in : List (List ℕ) → List Mark
marks_in lines = map mark_seen (seen lines)

-- no line is an orphan, and these are the commands of the lines
pub record AreCommandsIn (lines : List (List ℕ)) (commands : List FileCommand) : Type 0 where
  pub no_orphan : (place : ℕ) → ¬ IsOrphan lines place
  pub reads : AreMarksRead (marks_in lines) commands

-- the commands of a text are those of its lines
abbrev pub CommandsAreOfLines : Type 0
CommandsAreOfLines =
    (text : List ℕ) (lines : Lines) (commands : List FileCommand) → AreLinesOf text lines →
    AreCommandsOf text lines commands ↔ AreMarksRead (marks_in (text_lines text)) commands

-- a line of the block that is open
abbrev pub AnInnerLineIsIn : Type 0
AnInnerLineIsIn =
    (lines : List (List ℕ)) (commands : List FileCommand) (place : ℕ) (line : List ℕ)
    (within : BlockKind) (command : Command) → AreCommandsIn lines commands →
    MayStandAt lines place line → IsInner line →
    Opened commands (open_block (take place lines)) within →
    ReadBy (is_extended_block within) (words line) (rows within) command →
    AreCommandsIn (inserted place line lines)
    (with_command place (command_at (place + 1) (open_block (take place lines)) command) commands)

-- a head of a block, a top line outside of blocks, and a line that only closes one
abbrev pub AHeadIsIn : Type 0
AHeadIsIn =
    (lines : List (List ℕ)) (commands : List FileCommand) (place : ℕ) (line : List ℕ)
    (command : Command) → AreCommandsIn lines commands → MayStandAt lines place line →
    IsHead line → ReadBy false (words line) (rows kinds.Top) command →
    AreCommandsIn (inserted place line lines)
    (with_command place (command_at (place + 1) (place + 1) command) commands)

abbrev pub ASingleLineIsIn : Type 0
ASingleLineIsIn =
    (lines : List (List ℕ)) (commands : List FileCommand) (place : ℕ) (line : List ℕ)
    (command : Command) → AreCommandsIn lines commands → MayStandAt lines place line →
    IsSingle line → ReadBy false (words line) (rows kinds.Top) command →
    AreCommandsIn (inserted place line lines)
    (with_command place (command_at (place + 1) 0 command) commands)

abbrev pub AClosingLineIsIn : Type 0
AClosingLineIsIn =
    (lines : List (List ℕ)) (commands : List FileCommand) (place : ℕ) (line : List ℕ) →
    AreCommandsIn lines commands → MayStandAt lines place line → IsClosing line →
    AreCommandsIn (inserted place line lines) (map (command_moved place) commands)

-- the line is allowed at the end of the block, its command is the block's last, and it changes what
-- the block sets and nothing else
pub record IsAppendedIn (lines : List (List ℕ)) (commands : List FileCommand)
    (head last : FileCommand) (line : List ℕ) (command : Command) : Type 0 where
  pub may : MayStandAt lines last.line line
  pub stands : AreCommandsIn (inserted last.line line lines)
      (with_command last.line (command_at (last.line + 1) head.line command) commands)
  pub sets : HasOneOther (bare_config (config_of commands)) (bare_config
      (config_of (with_command last.line (command_at (last.line + 1) head.line command) commands)))
      (map bare (members commands (Block head.line)))
      (map bare (members commands (Block head.line)) ++
      record { line = 0; block = 0; command = command } ∷ [])

abbrev pub ALineIsAppendedIn : Type 0
ALineIsAppendedIn =
    (lines : List (List ℕ)) (commands : List FileCommand) (head last : FileCommand)
    (within : BlockKind) (line : List ℕ) (command : Command) → AreCommandsIn lines commands →
    HasBlock commands head last within → IsLineOf line within head.line command →
    IsAppendedIn lines commands head last line command

-- the line is allowed at its place, its command comes between those of earlier lines and those of
-- later ones, and it changes what its part sets and nothing else
pub record IsPutIn (lines : List (List ℕ)) (commands : List FileCommand) (place : ℕ) (line : List ℕ)
    (block : ℕ) (part : Part) (command : Command) : Type 0 where
  pub may : MayStandAt lines place line
  pub stands : AreCommandsIn (inserted place line lines)
      (with_command place (command_at (place + 1) block command) commands)
  pub split : Split place commands
  pub sets : HasOneOther (bare_config (config_of commands))
      (bare_config (config_of (with_command place (command_at (place + 1) block command) commands)))
      (map bare (members split.front part ++ members split.back part))
      (map bare (members split.front part) ++ record { line = 0; block = 0; command = command } ∷
      map bare (members split.back part))

-- a line of a block before another of it
abbrev pub ALineIsPutBeforeIn : Type 0
ALineIsPutBeforeIn =
    (lines : List (List ℕ)) (commands : List FileCommand) (head next : FileCommand)
    (within : BlockKind) (place : ℕ) (line : List ℕ) (command : Command) →
    AreCommandsIn lines commands →
    IsInBlock commands head next within → IsLineOf line within head.line command →
    next.line ≡ place + 1 → IsPutIn lines commands place line head.line (Block head.line) command

-- a line of a list that is written as lines, before another of it
abbrev pub ASingleLineIsPutBeforeIn : Type 0
ASingleLineIsPutBeforeIn =
    (lines : List (List ℕ)) (commands : List FileCommand) (next : FileCommand) (place : ℕ)
    (line : List ℕ) (command : Command) → AreCommandsIn lines commands → Contains commands next →
    next.block ≡ 0 → next.line ≡ place + 1 → IsSingle line →
    ReadBy false (words line) (rows kinds.Top) command → part_in 0 command ≡ part_of next →
    ((n : ℕ) → part_moved n (part_of next) ≡ part_of next) →
    IsPutIn lines commands place line 0 (part_of next) command
