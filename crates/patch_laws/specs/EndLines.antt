-- The lines that edits add at the ends of processes and interfaces.
use Rattle.std.specs.Prelude.{◌≡◌, ℕ, true, Some, List, [], ◌∷◌, ◌++◌, map, Contains, IsTrue}
use Rattle.std.specs.List.{AllByRecursion}
use Rattle.net_model.specs.declared.rows.Network.{Network}
use Rattle.net_model.specs.declared.rows.Protocol.{Protocol}
use Rattle.net_model.specs.declared.rows.Protocol.TheVariants.{Ospf, Bgp}
use Rattle.net_model.specs.Validity.{FitsProtocol}
use Rattle.arc_base.specs.NameForms.{is_name}
use Rattle.ios_words.specs.declared.commands.Command.{Command}
use Rattle.ios_words.specs.declared.commands.Command.TheVariants as commands
use Rattle.ios_words.specs.declared.kinds.BlockKind.{BlockKind}
use Rattle.ios_words.specs.declared.kinds.BlockKind.TheVariants as kinds
use Rattle.ios_config.specs.declared.commands.FileCommand.{FileCommand}
use Rattle.ios_config.specs.Appended.{IsLineOf}
use Rattle.ios_config.specs.Bare.{bare}
use Rattle.ios_config.specs.ProcessLines.{IsQuiet}
use Rattle.ios_config.specs.Texts.{face_of, process_of}
use Rattle.edit_list.specs.declared.edit_kinds.Edit.{Edit}
use Rattle.edit_list.specs.declared.list_kinds.NewList.{NewList}
use Rattle.line_patcher.specs.Additions.{process_commands}
use Rattle.line_patcher.specs.Written.{line_of}
use Rattle.settings_edit_laws.specs.Additions.{new_inbound}
use Rattle.edit_list.specs.NewLists.{named_lists}
use Rattle.settings_edit_laws.specs.Premises.{IsWritable}
use Rattle.settings_edit_laws.specs.SettingsAfter.{face_with, process_with}
use Rattle.patch_laws.specs.Fits.{IsFit}

-- in which blocks the lines of a protocol's process are read
abbrev pub process_kind : Protocol → BlockKind
process_kind Ospf = kinds.Ospf
process_kind Bgp = kinds.Bgp

-- the line of the command may be added to the protocol's process, with a block of this number, and
-- is read there as the command, which counts alone
pub record IsProcessLine (protocol : Protocol) (block : ℕ) (command : Command) : Type 0 where
  pub line : IsLineOf (line_of command) (process_kind protocol) block command
  pub quiet : IsQuiet command
  pub fit : IsFit (line_of command)

-- the names of the router's new lists can be written in lines
abbrev pub AreNamed : Network → List Edit → ℕ → Type 0
AreNamed net chosen router =
    (named : NewList × List ℕ) → Contains (named_lists net chosen router) named →
    IsTrue (is_name named.1)

-- a command as a line without numbers gives it
abbrev pub unplaced : Command → FileCommand
unplaced command = record { line = 0; block = 0; command = command }

-- the lines that turn sessions and bind new route lists are read in the process as the commands
-- that do
abbrev pub ProcessLinesAreRead : Type 0
ProcessLinesAreRead =
    (net : Network) (chosen : List Edit) (router block : ℕ) → IsWritable net →
    FitsProtocol net.protocol net → AreNamed net chosen router →
    AllByRecursion (IsProcessLine net.protocol block) (process_commands net chosen router)

-- the line that binds a new packet list is read at its interface as the command that does
abbrev pub GroupLinesAreFit : Type 0
GroupLinesAreFit =
    (name : List ℕ) (block : ℕ) → IsTrue (is_name name) →
    (IsLineOf (line_of (commands.Group name true)) kinds.Interface block
    (commands.Group name true) × IsQuiet (commands.Group name true)) ×
    IsFit (line_of (commands.Group name true))

-- a process with these commands at its end is the process after the edits
abbrev pub ProcessesGrow : Type 0
ProcessesGrow =
    (net : Network) (chosen : List Edit) (router : ℕ) (head : FileCommand)
    (rest : List FileCommand) →
    process_of (bare head ∷ (map bare rest ++ map unplaced (process_commands net chosen router)))
    ≡ map (process_with net chosen router) (process_of (map bare (head ∷ rest)))

-- and so is an interface with its binding
abbrev pub FacesGrow : Type 0
FacesGrow =
    (net : Network) (chosen : List Edit) (router : ℕ) (head : FileCommand) (rest : List FileCommand)
    (face name : List ℕ) → head.command ≡ commands.Interface face →
    new_inbound net chosen router face ≡ Some name →
    face_of (bare head ∷ (map bare rest ++ unplaced (commands.Group name true) ∷ []))
    ≡ map (face_with net chosen router) (face_of (map bare (head ∷ rest)))
