-- Lines that are added one after another at the end of a process.
use Rattle.ios_lines.specs.Changes.{Change, Insert, lines_after_all, MayAllCome}
use Rattle.std.specs.Prelude.{◌≡◌, ℕ, ◌+◌, ◌⊎◌, List, [], ◌∷◌, ◌++◌, map, take, drop, None}
use Rattle.std.specs.Prelude.{Contains}
use Rattle.ios_config.specs.declared.settings.ProcessKind.TheVariants.{Ospf, Bgp}
use Rattle.std.specs.List.{AllZip}
use Rattle.ios_words.specs.declared.kinds.BlockKind.{BlockKind}
use Rattle.ios_words.specs.declared.kinds.BlockKind.TheVariants as kinds
use Rattle.ios_words.specs.declared.commands.Command.{Command}
use Rattle.ios_config.specs.declared.commands.FileCommand.{FileCommand}
use Rattle.ios_config.specs.declared.settings.Config.{Config}
use Rattle.ios_config.specs.declared.settings.Given.{Given}
use Rattle.ios_config.specs.declared.settings.ProcessText.{ProcessText}
use Rattle.ios_config.specs.Appended.{HasBlock, IsLineOf}
use Rattle.ios_config.specs.Bare.{bare_config}
use Rattle.ios_config.specs.LineLists.{AreCommandsIn}
use Rattle.ios_config.specs.Texts.{config_of}
use Rattle.ios_config.specs.Twice.{stand_of, excluded, StandOnce}
use Rattle.ios_config.specs.Values.{hostname as says_hostname}

-- a command that begins nothing that may occur only once, excludes nothing and gives no name
pub record IsQuiet (command : Command) : Type 0 where
  pub stands : stand_of command ≡ None
  pub excludes : excluded command ≡ []
  pub unnamed : says_hostname command ≡ None

-- the lines belong to the block of this head, and are read in a block of this kind as these
-- commands
abbrev pub AreLinesIn : BlockKind → ℕ → List (List ℕ) → List Command → Type 0
AreLinesIn within block lines commands =
    AllZip (λ line command. IsLineOf line within block command × IsQuiet command) lines commands

-- a process's block is of this kind
abbrev pub IsProcessKind : BlockKind → Type 0
IsProcessKind within = (within ≡ kinds.Ospf) ⊎ (within ≡ kinds.Bgp)

-- several items between those before a place and those after it
abbrev pub inserted_all : {A : Type 0} → ℕ → List A → List A → List A
inserted_all place items xs = take place xs ++ (items ++ drop place xs)

-- the changes that add lines one after another, from a place on
abbrev pub insertions : ℕ → List (List ℕ) → List Change
insertions place [] = []
insertions place (line ∷ lines) = Insert place line ∷ insertions (place + 1) lines

-- the command as a line gives it, without the line's number
abbrev pub unnumbered : Command → Given Command
unnumbered command = record { value = command; line = 0 }

-- a process with more lines, without the number of its last one
abbrev pub with_lines : List Command → ProcessText → ProcessText
with_lines commands p = record {
  kind = p.kind;
  number = p.number;
  head = p.head;
  last = 0;
  lines = p.lines ++ map unnumbered commands;
}

-- the process has these lines more at its end, and all other settings stay
pub record HasLonger (old new : Config) (commands : List Command) : Type 0 where
  pub hostname : new.hostname ≡ old.hostname
  pub faces : new.faces ≡ old.faces
  pub lists : new.lists ≡ old.lists
  pub process : new.process ≡ map (with_lines commands) old.process

-- the lines with others at the end of a block have commands; they set the same, but that the
-- process has these lines more
pub record AreAppendedIn (lines : List (List ℕ)) (commands : List FileCommand) (place : ℕ)
    (added : List (List ℕ)) (more : List Command) : Type 0 where
  pub all : List FileCommand
  pub may : MayAllCome (insertions place added) lines
  pub changed : lines_after_all (insertions place added) lines ≡ inserted_all place added lines
  pub stands : AreCommandsIn (inserted_all place added lines) all
  pub longer : HasLonger (bare_config (config_of commands)) (bare_config (config_of all)) more
  pub once : StandOnce commands → StandOnce all

-- lines that are added after the last command line of the file's one process are lines of it
abbrev pub ProcessLinesAreAppended : Type 0
ProcessLinesAreAppended =
    (lines : List (List ℕ)) (commands : List FileCommand) (head last : FileCommand)
    (within : BlockKind) (process : ProcessText) (added : List (List ℕ)) (more : List Command) →
    AreCommandsIn lines commands → HasBlock commands head last within →
    IsProcessKind within → (bare_config (config_of commands)).process ≡ process ∷ [] →
    AreLinesIn within head.line added more → AreAppendedIn lines commands last.line added more

-- the block of a process among the commands: its head and its last command
pub record HasProcess (commands : List FileCommand) (process : ProcessText) : Type 0 where
  pub head : FileCommand
  pub last : FileCommand
  pub within : BlockKind
  pub block : HasBlock commands head last within
  pub kind : ((within ≡ kinds.Ospf) × (process.kind ≡ Ospf)) ⊎
      ((within ≡ kinds.Bgp) × (process.kind ≡ Bgp))
  pub head_line : process.head ≡ head.line
  pub last_line : process.last ≡ last.line

-- each process that the commands set has its block among them
abbrev pub ProcessesHaveBlocks : Type 0
ProcessesHaveBlocks =
    (lines : List (List ℕ)) (commands : List FileCommand) (process : ProcessText) →
    AreCommandsIn lines commands →
    Contains (config_of commands).process process → HasProcess commands process
