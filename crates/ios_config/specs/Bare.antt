-- What a file sets, without the numbers of its lines.
use Rattle.std.specs.Prelude.{◌≡◌, ℕ, false, List, [], ◌∷◌, ◌++◌, map, Option, option_map, None}
use Rattle.std.specs.Prelude.{flat_map}
use Rattle.std.specs.List.{list_any}
use Rattle.ios_config.specs.declared.commands.FileCommand.{FileCommand}
use Rattle.ios_config.specs.declared.settings.Config.{Config}
use Rattle.ios_config.specs.declared.settings.FaceText.{FaceText}
use Rattle.ios_config.specs.declared.settings.Given.{Given}
use Rattle.ios_config.specs.declared.settings.ListText.{ListText}
use Rattle.ios_config.specs.declared.settings.ProcessText.{ProcessText}
use Rattle.ios_config.specs.declared.settings.Setting.{Setting}
use Rattle.ios_config.specs.Groups.{Part, is_same, part_of, members, groups}
use Rattle.ios_config.specs.Inserted.{command_moved}
use Rattle.ios_config.specs.Joined.{part_moved, between, StandsBeside}
use Rattle.ios_config.specs.Values.{hostname as says_hostname}
use Rattle.ios_config.specs.Texts.{config_of, face_of, list_of, process_of, router_name}

-- the command without its numbers
abbrev pub bare : FileCommand → FileCommand
bare c = record { line = 0; block = 0; command = c.command }

-- the groups of a file's commands without their numbers
abbrev pub bare_groups : List FileCommand → List (List FileCommand)
bare_groups commands = map (map bare) (groups commands)

-- a value without the number of its line
abbrev pub bare_given : {V : Type 0} → Given V → Given V
bare_given g = record { value = g.value; line = 0 }

abbrev pub bare_option : {V : Type 0} → Option (Given V) → Option (Given V)
bare_option o = option_map bare_given o

-- the settings of an interface, a list and a process without their numbers
abbrev pub bare_face : FaceText → FaceText
bare_face f = record {
  name = f.name;
  head = 0;
  last = 0;
  addr = bare_option f.addr;
  mask_len = bare_option f.mask_len;
  shut = bare_option f.shut;
  bandwidth = bare_option f.bandwidth;
  cost = bare_option f.cost;
  area = bare_option f.area;
  point = bare_option f.point;
  list_in = bare_option f.list_in;
  list_out = bare_option f.list_out;
}

abbrev pub bare_list : ListText → ListText
bare_list l = record {
  name = l.name;
  kind = l.kind;
  form = l.form;
  numbered = l.numbered;
  entries = map bare_given l.entries;
}

abbrev pub bare_process : ProcessText → ProcessText
bare_process p =
    record { kind = p.kind; number = p.number; head = 0; last = 0; lines = map bare_given p.lines }

abbrev pub bare_setting : Setting → Setting
bare_setting s = record { name = s.name; line = 0 }

-- the settings of a file without their numbers
abbrev pub bare_config : Config → Config
bare_config c = record {
  hostname = option_map bare_setting c.hostname;
  faces = map bare_face c.faces;
  lists = map bare_list c.lists;
  process = map bare_process c.process;
}

-- what groups of commands set
abbrev pub config_from : Option Setting → List (List FileCommand) → Config
config_from hostname gs = record {
  hostname = hostname;
  faces = flat_map face_of gs;
  lists = flat_map list_of gs;
  process = flat_map process_of gs;
}

-- the bare settings of a file are those of its bare groups
abbrev pub BareGroupsSetTheSame : Type 0
BareGroupsSetTheSame =
    (commands : List FileCommand) → bare_config (config_of commands)
    ≡ config_from (option_map bare_setting (router_name commands)) (bare_groups commands)

-- one of the bare groups has one command more, after those of the front
pub record HasJoined (front : List FileCommand) (c : FileCommand) (back : List FileCommand)
    (part : Part) (more : List FileCommand) : Type 0 where
  pub before : List (List FileCommand)
  pub after : List (List FileCommand)
  pub old : bare_groups (front ++ back) ≡ before ++ map bare (members (front ++ back) part) ∷ after
  pub new : bare_groups more ≡ before ++
      (map bare (members front part) ++ bare c ∷ map bare (members back part)) ∷ after

-- a command of the part of an earlier one or of the next one joins its group, and changes no other
abbrev pub ACommandJoinsOneGroup : Type 0
ACommandJoinsOneGroup =
    (place : ℕ) (front : List FileCommand) (c : FileCommand) (back : List FileCommand)
    (part : Part) → part_of c ≡ part_moved place part → StandsBeside part front back →
    HasJoined front c back part (between place front c back)

-- the settings of a file of which one group of commands is another: what the other groups set comes
-- before and after what this one sets
pub record HasOneOther (old new : Config) (group other : List FileCommand) : Type 0 where
  pub faces_before : List FaceText
  pub faces_after : List FaceText
  pub lists_before : List ListText
  pub lists_after : List ListText
  pub process_before : List ProcessText
  pub process_after : List ProcessText
  pub old_faces : old.faces ≡ faces_before ++ (face_of group ++ faces_after)
  pub new_faces : new.faces ≡ faces_before ++ (face_of other ++ faces_after)
  pub old_lists : old.lists ≡ lists_before ++ (list_of group ++ lists_after)
  pub new_lists : new.lists ≡ lists_before ++ (list_of other ++ lists_after)
  pub old_process : old.process ≡ process_before ++ (process_of group ++ process_after)
  pub new_process : new.process ≡ process_before ++ (process_of other ++ process_after)

-- a command that joins a group changes what that group sets and nothing else
abbrev pub OneGroupSetsOther : Type 0
OneGroupSetsOther =
    (place : ℕ) (front : List FileCommand) (c : FileCommand) (back : List FileCommand)
    (part : Part) → part_of c ≡ part_moved place part → StandsBeside part front back →
    HasOneOther (bare_config (config_of (front ++ back)))
    (bare_config (config_of (between place front c back))) (map bare (members (front ++ back) part))
    (map bare (members front part) ++ bare c ∷ map bare (members back part))

-- a command of a new part adds only what it sets: the part had no commands before
abbrev pub ANewGroupSetsItsOwn : Type 0
ANewGroupSetsItsOwn =
    (place : ℕ) (front : List FileCommand) (c : FileCommand) (back : List FileCommand) →
    list_any (is_same (part_of c)) (map part_of (map (command_moved place) (front ++ back)))
    ≡ false →
    HasOneOther (bare_config (config_of (front ++ back)))
    (bare_config (config_of (between place front c back))) [] (bare c ∷ [])

-- a command that is no hostname line leaves the name of the router
abbrev pub TheHostnameStays : Type 0
TheHostnameStays =
    (place : ℕ) (front : List FileCommand) (c : FileCommand) (back : List FileCommand) →
    says_hostname c.command ≡ None →
    (bare_config (config_of (between place front c back))).hostname
    ≡ (bare_config (config_of (front ++ back))).hostname
