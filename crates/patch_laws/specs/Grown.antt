-- Commands with others of their parts around them, and new lists among them, as edits of a network
-- grow them.
use Rattle.std.specs.Prelude.{◌≡◌, ℕ, List, [], ◌++◌, map, Contains, option_map}
use Rattle.std.specs.List.{flat_map}
use Rattle.net_model.specs.declared.rows.Network.{Network}
use Rattle.ios_config.specs.declared.commands.FileCommand.{FileCommand}
use Rattle.ios_config.specs.Bare.{bare, bare_setting}
use Rattle.ios_config.specs.Groups.{Part, part_of, distinct, members}
use Rattle.ios_config.specs.Texts.{face_of, list_of, process_of, router_name}
use Rattle.edit_list.specs.declared.edit_kinds.Edit.{Edit}
use Rattle.settings_edit_laws.specs.Plain.{plain_list}
use Rattle.settings_edit_laws.specs.SettingsAfter.{face_with, list_with, process_with}
use Rattle.settings_edit_laws.specs.SettingsAfter.{new_list_texts}

-- the new commands by their parts
abbrev pub new_groups : List FileCommand → List (List FileCommand)
new_groups added = map (map bare) (map (members added) (distinct (map part_of added)))

-- each group sets after the edits what it set, with what they add; the new groups set the new
-- lists, and the name of the router stays
pub record GrowAsEdited (net : Network) (chosen : List Edit) (router : ℕ)
    (grow : FileCommand → List FileCommand) (front back added : List FileCommand) : Type 0 where
  pub faces : (q : Part) → Contains (distinct (map part_of (front ++ back))) q →
      face_of (map bare (flat_map grow (members (front ++ back) q)))
      ≡ map (face_with net chosen router) (face_of (map bare (members (front ++ back) q)))
  pub lists : (q : Part) → Contains (distinct (map part_of (front ++ back))) q →
      map plain_list (list_of (map bare (flat_map grow (members (front ++ back) q))))
      ≡ map (list_with net chosen router)
      (map plain_list (list_of (map bare (members (front ++ back) q))))
  pub process : (q : Part) → Contains (distinct (map part_of (front ++ back))) q →
      process_of (map bare (flat_map grow (members (front ++ back) q)))
      ≡ map (process_with net chosen router) (process_of (map bare (members (front ++ back) q)))
  pub new_faces : flat_map face_of (new_groups added) ≡ []
  pub new_lists :
      map plain_list (flat_map list_of (new_groups added)) ≡ new_list_texts net chosen router
  pub new_process : flat_map process_of (new_groups added) ≡ []
  pub hostname :
      option_map bare_setting (router_name (flat_map grow front ++ (added ++ flat_map grow back)))
      ≡ option_map bare_setting (router_name (front ++ back))
