-- The settings of a file, or why it is refused.
use Rattle.std.specs.Prelude.{◌≡◌, ℕ, ◌⊎◌, List, Result, Ok, Err}
use Rattle.arc_base.specs.declared.refusal.Kind.{Kind}
use Rattle.arc_base.specs.declared.refusal.Kind.TheVariants.{DuplicateBlock, SequenceNotRising}
use Rattle.ios_lines.specs.declared.line.Lines.{Lines}
use Rattle.ios_config.specs.declared.commands.FileCommand.{FileCommand}
use Rattle.ios_config.specs.declared.settings.Config.{Config}
use Rattle.ios_config.specs.declared.fault.ConfigFault.{ConfigFault}
use Rattle.ios_config.specs.declared.fault.ConfigFault.TheVariants.{Refused, Memory}
use Rattle.ios_config.specs.Commands.{AreCommandsOf, IsFirstFault}
use Rattle.ios_config.specs.Texts.{config_of}
use Rattle.ios_config.specs.Twice.{StandOnce, IsFirstDuplicate}
use Rattle.ios_config.specs.Rising.{NumbersRise, IsFirstNotRising}

-- each line is a command, no block or list occurs twice, the numbers of entries rise, and the
-- commands set this
pub record IsConfigOf (text : List ℕ) (lines : Lines) (config : Config) : Type 0 where
  pub commands : List FileCommand
  pub read : AreCommandsOf text lines commands
  pub once : StandOnce commands
  pub rising : NumbersRise config.lists
  pub set : config ≡ config_of commands

-- each line is a command, and this is the first line at which a block or list occurs a second time
pub record HasDuplicate (text : List ℕ) (lines : Lines) (line : ℕ) : Type 0 where
  pub commands : List FileCommand
  pub read : AreCommandsOf text lines commands
  pub duplicate : IsFirstDuplicate commands line

-- no block or list occurs twice, and this is the first line of an entry whose number does not rise
pub record HasNumberNotRising (text : List ℕ) (lines : Lines) (line : ℕ) : Type 0 where
  pub commands : List FileCommand
  pub read : AreCommandsOf text lines commands
  pub once : StandOnce commands
  pub falls : IsFirstNotRising (config_of commands).lists line

-- the file is refused at this line, for this reason, which is the first
abbrev pub IsRefused : List ℕ → Lines → ℕ → Kind → Type 0
IsRefused text lines line kind =
    IsFirstFault text lines line kind ⊎
    (((kind ≡ DuplicateBlock) × HasDuplicate text lines line) ⊎
    ((kind ≡ SequenceNotRising) × HasNumberNotRising text lines line))

-- the answer is the settings of the file, or its first refusal, or out of memory
abbrev pub Configures : List ℕ → Lines → Result Config ConfigFault → Type 0
Configures text lines (Ok config) = IsConfigOf text lines config
Configures text lines (Err (Refused line kind)) = IsRefused text lines line kind
Configures text lines (Err Memory) = Unit {0}
