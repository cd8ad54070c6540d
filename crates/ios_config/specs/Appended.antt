-- A line that is added at the end of a block.
use Rattle.std.specs.Prelude.{◌≡◌, ◌≢◌, ℕ, ◌+◌, ◌≤◌, List, [], ◌∷◌, ◌++◌, map, Contains}
use Rattle.ios_lines.specs.declared.line.Lines.{Lines}
use Rattle.ios_lines.specs.Texts.{text_lines}
use Rattle.arc_base.specs.Words.{words}
use Rattle.ios_lines.specs.Kinds.{IsInner}
use Rattle.ios_lines.specs.Changes.{inserted}
use Rattle.ios_lines.specs.ChangeLaws.{CanBeCut}
use Rattle.ios_words.specs.declared.kinds.BlockKind.{BlockKind}
use Rattle.ios_words.specs.declared.kinds.BlockKind.TheVariants as kinds
use Rattle.ios_words.specs.declared.commands.Command.{Command}
use Rattle.ios_words.specs.Commands.{is_extended_block, ReadBy}
use Rattle.ios_words.specs.Language.{rows}
use Rattle.ios_config.specs.declared.commands.FileCommand.{FileCommand}
use Rattle.ios_config.specs.Bare.{bare, bare_config, HasOneOther}
use Rattle.ios_config.specs.Commands.{opened_by, AreCommandsOf}
use Rattle.ios_config.specs.Groups.{Block, part_in, part_of, members}
use Rattle.ios_config.specs.Inserted.{HaveLines, command_at, with_command}
use Rattle.ios_config.specs.Texts.{config_of}

-- the commands have a block with this head, whose lines are read by the rows of this kind, and this
-- is its last command
pub record HasBlock (commands : List FileCommand) (head last : FileCommand)
    (within : BlockKind) : Type 0 where
  pub among : Contains commands head
  pub own : head.block ≡ head.line
  pub some : head.block ≢ 0
  pub opens : opened_by head.command ≡ within
  pub known : within ≢ kinds.Inert
  pub last_among : Contains commands last
  pub last_block : last.block ≡ head.line
  pub latest : (d : FileCommand) → Contains commands d →
      part_of d ≡ Block head.line → d.line ≤ last.line

-- the line belongs to a block, and is read in one of this kind as a command of its block
pub record IsLineOf (line : List ℕ) (within : BlockKind) (block : ℕ)
    (command : Command) : Type 0 where
  pub inner : IsInner line
  pub reads : ReadBy (is_extended_block within) (words line) (rows within) command
  pub part : part_in block command ≡ Block block

-- the new command is the last of its block, and changes what the block sets and nothing else
pub record HasAppended (new : List ℕ) (more : Lines) (commands : List FileCommand)
    (head last : FileCommand) (command : Command) : Type 0 where
  pub cut : CanBeCut new
  pub reads : AreCommandsOf new more
      (with_command last.line (command_at (last.line + 1) head.line command) commands)
  pub sets : HasOneOther (bare_config (config_of commands)) (bare_config
      (config_of (with_command last.line (command_at (last.line + 1) head.line command) commands)))
      (map bare (members commands (Block head.line)))
      (map bare (members commands (Block head.line)) ++
      record { line = 0; block = 0; command = command } ∷ [])

-- a line that is added after the last command line of a block is its last command
abbrev pub ALineIsAppended : Type 0
ALineIsAppended =
    (old new : List ℕ) (lines more : Lines) (commands : List FileCommand) (head last : FileCommand)
    (within : BlockKind) (line : List ℕ) (command : Command) → CanBeCut old →
    HaveLines old new lines more commands → HasBlock commands head last within →
    IsLineOf line within head.line command →
    text_lines new ≡ inserted last.line line (text_lines old) →
    HasAppended new more commands head last command
