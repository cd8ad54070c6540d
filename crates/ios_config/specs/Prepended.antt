-- A line that is added before another.
use Rattle.std.specs.Prelude.{◌≡◌, ◌≢◌, ℕ, ◌+◌, ◌<◌, List, ◌∷◌, ◌++◌, map, Contains}
use Rattle.ios_lines.specs.declared.line.Lines.{Lines}
use Rattle.ios_lines.specs.Texts.{text_lines}
use Rattle.ios_lines.specs.Changes.{inserted}
use Rattle.ios_lines.specs.ChangeLaws.{CanBeCut}
use Rattle.ios_words.specs.declared.kinds.BlockKind.{BlockKind}
use Rattle.ios_words.specs.declared.kinds.BlockKind.TheVariants as kinds
use Rattle.ios_words.specs.declared.commands.Command.{Command}
use Rattle.ios_config.specs.declared.commands.FileCommand.{FileCommand}
use Rattle.ios_config.specs.Appended.{IsLineOf}
use Rattle.ios_config.specs.Bare.{bare, bare_config, HasOneOther}
use Rattle.ios_config.specs.Commands.{opened_by, AreCommandsOf}
use Rattle.ios_config.specs.Effects.{Split}
use Rattle.ios_config.specs.Groups.{Part, Block, members}
use Rattle.ios_config.specs.Inserted.{HaveLines, command_at, with_command}
use Rattle.ios_config.specs.Texts.{config_of}

-- the commands have a block with this head, whose lines are read by the rows of this kind, and the
-- next command is one of it
pub record IsInBlock (commands : List FileCommand) (head next : FileCommand)
    (within : BlockKind) : Type 0 where
  pub among : Contains commands head
  pub own : head.block ≡ head.line
  pub some : head.block ≢ 0
  pub opens : opened_by head.command ≡ within
  pub known : within ≢ kinds.Inert
  pub next_among : Contains commands next
  pub next_block : next.block ≡ head.line
  pub later : head.line < next.line

-- the new command comes between those of earlier lines and those of later ones, and changes what
-- its part sets and nothing else
pub record HasPrepended (new : List ℕ) (more : Lines) (commands : List FileCommand)
    (place block : ℕ) (part : Part) (command : Command) : Type 0 where
  pub cut : CanBeCut new
  pub reads :
      AreCommandsOf new more (with_command place (command_at (place + 1) block command) commands)
  pub split : Split place commands
  pub sets : HasOneOther (bare_config (config_of commands))
      (bare_config (config_of (with_command place (command_at (place + 1) block command) commands)))
      (map bare (members split.front part ++ members split.back part))
      (map bare (members split.front part) ++ record { line = 0; block = 0; command = command } ∷
      map bare (members split.back part))

-- a line of a block that is added before another of it is a command of it
abbrev pub ALineIsPutBefore : Type 0
ALineIsPutBefore =
    (old new : List ℕ) (lines more : Lines) (commands : List FileCommand) (head next : FileCommand)
    (within : BlockKind) (place : ℕ) (line : List ℕ) (command : Command) → CanBeCut old →
    HaveLines old new lines more commands → IsInBlock commands head next within →
    IsLineOf line within head.line command → next.line ≡ place + 1 →
    text_lines new ≡ inserted place line (text_lines old) →
    HasPrepended new more commands place head.line (Block head.line) command
