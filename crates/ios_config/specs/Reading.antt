-- How the lines of a file are read one by one.
use Rattle.std.specs.Prelude.{◌≡◌, ℕ, List, Result, Ok, Err, if◌then◌else◌}
use Rattle.arc_base.specs.declared.refusal.Kind.TheVariants as reasons
use Rattle.ios_lines.specs.declared.line.Line.{Line}
use Rattle.ios_words.specs.declared.kinds.BlockKind.{BlockKind}
use Rattle.ios_words.specs.declared.kinds.BlockKind.TheVariants as kinds
use Rattle.ios_words.specs.declared.kinds.WordFault.{WordFault}
use Rattle.ios_words.specs.declared.kinds.WordFault.TheVariants.{Unknown, BadWord}
use Rattle.ios_words.specs.declared.kinds.WordFault.TheVariants.{WildcardNotPrefix, Memory}
use Rattle.ios_words.specs.declared.commands.Command.{Command}
use Rattle.ios_words.specs.Commands.{ReadsAs}
use Rattle.ios_config.specs.declared.fault.ConfigFault.{ConfigFault}
use Rattle.ios_config.specs.declared.fault.ConfigFault.TheVariants as faults
use Rattle.ios_config.specs.declared.commands.FileCommand.{FileCommand}
use Rattle.ios_config.specs.Commands.{is_top, opened_by, IsNoCommand}

-- the kind of block that a line is in, where this is the kind of the open one
abbrev pub standing : Line → BlockKind → BlockKind
standing line current = if is_top line then kinds.Top else current

-- the kind of the open block after a line that is read as this command
abbrev pub open_after : Line → Command → BlockKind → BlockKind
open_after line command current = if line.head then opened_by command else current

-- what is answered for the line of this number, which is no command
abbrev pub refusal : ℕ → WordFault → ConfigFault
refusal number Unknown = faults.Refused number reasons.UnknownLine
refusal number (BadWord place) = faults.Refused number reasons.BadWord
refusal number WildcardNotPrefix = faults.Refused number reasons.WildcardNotPrefix
refusal number Memory = faults.Memory

-- the command that the line is read as in a block of this kind
pub record IsCommandAt (text : List ℕ) (line : Line) (number : ℕ) (within : BlockKind)
    (c : FileCommand) : Type 0 where
  pub number_is : c.line ≡ number
  pub block_is : c.block ≡ line.block
  pub reads : ReadsAs text line within c.command

-- it is answered what the line of this number is read as, or why it is no command
abbrev pub IsReading : List ℕ → Line → ℕ → BlockKind → Result FileCommand ConfigFault → Type 0
IsReading text line number within (Ok c) = IsCommandAt text line number within c
IsReading text line number within (Err (faults.Refused n kind)) =
    (n ≡ number) × IsNoCommand text line within kind
IsReading text line number within (Err faults.Memory) = Unit {0}
