-- The commands of a file, line for line, and its first line that is none.
use Rattle.std.specs.Prelude.{◌≡◌, ℕ, ◌==◌, ◌||◌, ◌⊎◌, not, Bool, true, false, List, ◌∷◌, ◌++◌}
use Rattle.std.specs.Prelude.{filter, Contains, MatchBool}
use Rattle.std.specs.List.{AllZip, enumerate_from}
use Rattle.arc_base.specs.declared.refusal.Kind.{Kind}
use Rattle.arc_base.specs.declared.refusal.Kind.TheVariants.{UnknownLine, BadWord}
use Rattle.arc_base.specs.declared.refusal.Kind.TheVariants.{WildcardNotPrefix}
use Rattle.ios_lines.specs.declared.line.Lines.{Lines}
use Rattle.ios_lines.specs.declared.line.Line.{Line}
use Rattle.ios_words.specs.declared.kinds.BlockKind.{BlockKind}
use Rattle.ios_words.specs.declared.kinds.BlockKind.TheVariants as kinds
use Rattle.ios_words.specs.declared.commands.Command.{Command}
use Rattle.ios_words.specs.declared.commands.Command.TheVariants.{Interface, RouterOspf, RouterBgp}
use Rattle.ios_words.specs.declared.commands.Command.TheVariants.{ListBlock}
use Rattle.ios_words.specs.Commands.{ReadsAs, IsUnknown, HasBadWord, HasBadWildcard}
use Rattle.ios_config.specs.declared.fault.ConfigFault.{ConfigFault}
use Rattle.ios_config.specs.declared.fault.ConfigFault.TheVariants.{Refused, Memory}
use Rattle.ios_config.specs.declared.commands.FileCommand.{FileCommand}

-- the lines with their numbers, counted from 1
abbrev pub numbered : Lines → List (ℕ × Line)
numbered lines = enumerate_from 1 lines.rows

-- those that are no comments, blank lines or lines of a banner
abbrev pub command_lines : Lines → List (ℕ × Line)
command_lines lines = filter (λ l. not l.1.inert) (numbered lines)

-- the kind of block that a top line's command opens
abbrev pub opened_by : Command → BlockKind
opened_by (Interface name) = kinds.Interface
opened_by (RouterOspf number) = kinds.Ospf
opened_by (RouterBgp number) = kinds.Bgp
opened_by (ListBlock true name) = kinds.Extended
opened_by (ListBlock false name) = kinds.Standard
opened_by _ = kinds.Inert

-- the line of this number is read as a command that opens a block of this kind
pub record Opens (text : List ℕ) (lines : Lines) (number : ℕ) (kind : BlockKind) : Type 0 where
  pub head : Line
  pub at_number : Contains (numbered lines) (number, head)
  pub command : Command
  pub reads : ReadsAs text head kinds.Top command
  pub opens : kind ≡ opened_by command

-- a line that heads a block or belongs to none is a top line
abbrev pub is_top : Line → Bool
is_top line = line.head || (line.block == 0)

-- the line is at the top, or in a block of this kind
abbrev pub IsLineWithin : List ℕ → Lines → Line → BlockKind → Type 0
IsLineWithin text lines line kind =
    MatchBool (is_top line) (kind ≡ kinds.Top) (Opens text lines line.block kind)

-- the numbered line is read as this command of the file
pub record IsReadAs (text : List ℕ) (lines : Lines) (l : ℕ × Line) (c : FileCommand) : Type 0 where
  pub line : c.line ≡ l.0
  pub block : c.block ≡ l.1.block
  pub within : BlockKind
  pub stands : IsLineWithin text lines l.1 within
  pub reads : ReadsAs text l.1 within c.command

-- these are the commands of the file, one for each line that is to be one
abbrev pub AreCommandsOf : List ℕ → Lines → List FileCommand → Type 0
AreCommandsOf text lines commands = AllZip (IsReadAs text lines) (command_lines lines) commands

-- the line is no command, for this reason
abbrev pub IsNoCommand : List ℕ → Line → BlockKind → Kind → Type 0
IsNoCommand text line within kind =
    ((kind ≡ UnknownLine) × IsUnknown text line within) ⊎
    (((kind ≡ BadWord) × ((place : ℕ) × HasBadWord text line within place)) ⊎
    ((kind ≡ WildcardNotPrefix) × HasBadWildcard text line within))

-- the line of this number is no command, for this reason, and each before it is one
pub record IsFirstFault (text : List ℕ) (lines : Lines) (number : ℕ) (kind : Kind) : Type 0 where
  pub before : List (ℕ × Line)
  pub line : Line
  pub after : List (ℕ × Line)
  pub split : command_lines lines ≡ before ++ (number, line) ∷ after
  pub commands : List FileCommand
  pub read : AllZip (IsReadAs text lines) before commands
  pub within : BlockKind
  pub stands : IsLineWithin text lines line within
  pub fault : IsNoCommand text line within kind

-- the fault is the first of the file's lines, or out of memory
abbrev pub IsFaultOfFile : List ℕ → Lines → ConfigFault → Type 0
IsFaultOfFile text lines (Refused number kind) = IsFirstFault text lines number kind
IsFaultOfFile text lines Memory = Unit {0}
