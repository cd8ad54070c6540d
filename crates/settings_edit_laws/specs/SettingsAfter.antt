-- The settings of a router's file after edits of the network.
use Rattle.std.specs.Prelude.{◌≡◌, ℕ, false, List, ◌++◌, map, option_map}
use Rattle.std.specs.Option.{option_or}
use Rattle.net_model.specs.declared.rows.Network.{Network}
use Rattle.ios_config.specs.declared.settings.Config.{Config}
use Rattle.ios_config.specs.declared.settings.FaceText.{FaceText}
use Rattle.ios_config.specs.declared.settings.ListText.{ListText}
use Rattle.ios_config.specs.declared.settings.ProcessText.{ProcessText}
use Rattle.ios_config.specs.Bare.{bare_face, bare_process, bare_setting}
use Rattle.edit_list.specs.declared.edit_kinds.Edit.{Edit}
use Rattle.edit_list.specs.declared.list_kinds.NewList.{NewList}
use Rattle.arc_base.specs.Numbered.{EachRow}
use Rattle.settings_edit_laws.specs.Plain.{said, plain_list}
use Rattle.settings_edit_laws.specs.Additions.{new_inbound, front_lines}
use Rattle.settings_edit_laws.specs.Additions.{new_list_lines, new_list_kind, new_list_form}
use Rattle.edit_list.specs.NewLists.{named_lists}
use Rattle.line_patcher.specs.Additions.{process_commands}

-- an interface of the router after the edits: its new packet list is bound inbound, where it has
-- one
abbrev pub face_with : Network → List Edit → ℕ → FaceText → FaceText
face_with net chosen router face =
    record face
    { list_in = option_or (option_map said (new_inbound net chosen router face.name)) face.list_in }

-- a list of the router after the edits: the new entries before the old ones
abbrev pub list_with : Network → List Edit → ℕ → ListText → ListText
list_with net chosen router list =
    record list
    { entries = map said (front_lines net chosen router list list.kind) ++ list.entries }

-- the new list of this name
abbrev pub new_list_text : List Edit → List ℕ → NewList → ListText
new_list_text chosen name list = record {
  name = name;
  kind = new_list_kind list;
  form = new_list_form list;
  numbered = false;
  entries = map said (new_list_lines chosen name list);
}

-- the new lists of the router: its route lists, and then its packet lists
abbrev pub new_list_texts : Network → List Edit → ℕ → List ListText
new_list_texts net chosen router =
    map (λ l. new_list_text chosen l.1 l.0) (named_lists net chosen router)

-- the process of the router after the edits: it has their lines at its end
abbrev pub process_with : Network → List Edit → ℕ → ProcessText → ProcessText
process_with net chosen router process =
    record process { lines = process.lines ++ map said (process_commands net chosen router) }

-- The new settings of the router's file are the old ones after the edits of the network, except for
-- the numbers of lines and of entries: the new lists are together somewhere among the old ones.
pub record AreSettingsAfter (net : Network) (chosen : List Edit) (router : ℕ)
    (old new : Config) : Type 0 where
  pub hostname : option_map bare_setting new.hostname ≡ option_map bare_setting old.hostname
  pub faces : map bare_face new.faces ≡ map (face_with net chosen router) (map bare_face old.faces)
  pub front : List ListText
  pub back : List ListText
  pub old_lists : map plain_list old.lists ≡ front ++ back
  pub new_lists : map plain_list new.lists ≡
      map (list_with net chosen router) front ++
      (new_list_texts net chosen router ++ map (list_with net chosen router) back)
  pub process : map bare_process new.process ≡
      map (process_with net chosen router) (map bare_process old.process)

-- the new settings of each file are the old ones after the edits
abbrev pub AreAllSettingsAfter : Network → List Edit → List Config → List Config → Type 0
AreAllSettingsAfter net chosen old new = EachRow (AreSettingsAfter net chosen) old new
