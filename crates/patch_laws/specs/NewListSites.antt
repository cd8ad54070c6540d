-- What new lists are made of: single lines, or a block.
use Rattle.std.specs.Prelude.{◌≡◌, ◌≢◌, ℕ, ◌+◌, ◌≤◌, true, false, List, [], ◌∷◌, ◌++◌, map, length}
use Rattle.std.specs.Prelude.{codes, Contains, IsTrue}
use Rattle.std.specs.List.{AllByRecursion, flat_map}
use Rattle.arc_base.specs.declared.limits.TheConstants.{ENTRY_LIMIT}
use Rattle.net_model.specs.declared.policies.Class.{Class}
use Rattle.ios_words.specs.declared.commands.Command.TheVariants as commands
use Rattle.arc_base.specs.NameForms.{is_name}
use Rattle.edit_list.specs.Changes.{new_prefixes, new_classes}
use Rattle.edit_list.specs.declared.edit_kinds.Edit.{Edit}
use Rattle.edit_list.specs.declared.list_kinds.NewList.{NewList}
use Rattle.edit_list.specs.declared.list_kinds.NewList.TheVariants.{Route, Packet}
use Rattle.edit_list.specs.Writable.{is_writable}
use Rattle.settings_edit_laws.specs.Plain.{plain_list}
use Rattle.settings_edit_laws.specs.SettingsAfter.{new_list_text}
use Rattle.ios_config.specs.declared.commands.FileCommand.{FileCommand}
use Rattle.ios_config.specs.Groups.{Block, is_same, part_of}
use Rattle.ios_config.specs.Texts.{face_of, list_of, process_of}
use Rattle.line_patcher.specs.NewListLines.{new_route_commands, new_entries}
use Rattle.line_patcher.specs.Written.{line_of}
use Rattle.line_edit_laws.specs.Sites.{Chunk, Single, NewBlock, chunk_commands}
use Rattle.patch_laws.specs.Grown.{new_groups}
use Rattle.patch_laws.specs.Written.{written_of}

-- the chunks of a new list of this name; the block of a packet list has this number here
abbrev pub new_chunks : List Edit → ℕ → NewList → List ℕ → List Chunk
new_chunks chosen key (Route face) name =
    map Single (map written_of (new_route_commands name (new_prefixes chosen face.0)))
new_chunks chosen key (Packet face) name =
    NewBlock key (written_of (commands.ListBlock true name))
    (map written_of (new_entries (new_classes chosen face.0))) (line_of commands.Inert) ∷ []

-- the chunks of several, whose blocks are counted
abbrev pub list_chunks : List Edit → ℕ → List (NewList × List ℕ) → List Chunk
list_chunks chosen key [] = []
list_chunks chosen key (named ∷ more) =
    new_chunks chosen key named.0 named.1 ++ list_chunks chosen (key + 1) more

-- the name may be that of a new list; a new route list has not too many entries for their numbers,
-- and one entry of a new packet list can say each of its classes
pub record IsNewName (chosen : List Edit) (named : NewList × List ℕ) : Type 0 where
  pub name : IsTrue (is_name named.1)
  pub other : named.1 ≢ codes "sequence-number"
  pub few : (face : ℕ) → length (new_prefixes chosen face) ≤ ENTRY_LIMIT
  pub writable : (face : ℕ) (class : Class) → Contains (new_classes chosen face) class →
      IsTrue (is_writable class.service)

-- no command is of a block from this number on
abbrev pub AreClear : ℕ → List FileCommand → Type 0
AreClear key vs = (j : ℕ) → key ≤ j → AllByRecursion (λ v. is_same (Block j) (part_of v) ≡ false) vs

-- no two of the lists have one name
abbrev pub AreDifferent : List (NewList × List ℕ) → Type 0
AreDifferent [] = Unit {0}
AreDifferent (named ∷ more) = AllByRecursion (λ other. named.1 ≢ other.1) more × AreDifferent more

-- the groups of new lists set these lists and nothing else
pub record SetNewLists (chosen : List Edit) (key : ℕ)
    (named : List (NewList × List ℕ)) : Type 0 where
  pub lists : map plain_list
      (flat_map list_of (new_groups (flat_map chunk_commands (list_chunks chosen key named))))
      ≡ map (λ l. new_list_text chosen l.1 l.0) named
  pub faces :
      flat_map face_of (new_groups (flat_map chunk_commands (list_chunks chosen key named))) ≡ []
  pub process :
      flat_map process_of (new_groups (flat_map chunk_commands (list_chunks chosen key named))) ≡ []
