-- What the commands of a file make of it: the settings of its interfaces, its lists and its
-- processes.
use Rattle.std.specs.Prelude.{ℕ, ◌-◌, ◌&&◌, ◌||◌, nat_le, Bool, true, false, List, [], ◌∷◌, map}
use Rattle.std.specs.Prelude.{length, slice_get, Option, Some, None, option_map, is_some}
use Rattle.std.specs.Prelude.{if◌then◌else◌}
use Rattle.std.specs.Option.{option_map_or}
use Rattle.std.specs.List.{flat_map, filter_map}
use Rattle.arc_base.specs.PrefixText.{number_of}
use Rattle.ios_words.specs.declared.commands.Command.{Command}
use Rattle.ios_words.specs.declared.commands.Command.TheVariants.{Interface, RouterOspf, RouterBgp}
use Rattle.ios_words.specs.declared.commands.Command.TheVariants.{ListBlock, ListLine, PrefixLine}
use Rattle.ios_words.specs.declared.commands.Command.TheVariants.{Entry}
use Rattle.ios_config.specs.declared.commands.FileCommand.{FileCommand}
use Rattle.ios_config.specs.declared.settings.Given.{Given}
use Rattle.ios_config.specs.declared.settings.Setting.{Setting}
use Rattle.ios_config.specs.declared.settings.Config.{Config}
use Rattle.ios_config.specs.declared.settings.FaceText.{FaceText}
use Rattle.ios_config.specs.declared.settings.ListText.{ListText}
use Rattle.ios_config.specs.declared.settings.ListKind.{ListKind}
use Rattle.ios_config.specs.declared.settings.ListKind.TheVariants.{Extended, Standard, Prefix}
use Rattle.ios_config.specs.declared.settings.ListForm.{ListForm}
use Rattle.ios_config.specs.declared.settings.ListForm.TheVariants as forms
use Rattle.ios_config.specs.declared.settings.ProcessText.{ProcessText}
use Rattle.ios_config.specs.declared.settings.ProcessKind.{ProcessKind}
use Rattle.ios_config.specs.declared.settings.ProcessKind.TheVariants.{Ospf, Bgp}
use Rattle.ios_config.specs.Values.{last_setting, hostname, address, mask_length, shut_down}
use Rattle.ios_config.specs.Values.{bandwidth, ospf_cost, ospf_area, point_to_point, inbound}
use Rattle.ios_config.specs.Values.{outbound}
use Rattle.ios_config.specs.Groups.{groups}

-- the line of the last command
abbrev pub last_line : List FileCommand → ℕ
last_line commands = option_map_or (λ c. c.line) (slice_get commands (length commands - 1)) 0

-- the command with its line
abbrev pub given : FileCommand → Given Command
given c = record { value = c.command; line = c.line }

-- the interface of this name, whose block has these commands
abbrev pub face_text : List ℕ → ℕ → List FileCommand → FaceText
face_text name head block = record {
  name = name;
  head = head;
  last = last_line block;
  addr = last_setting address block;
  mask_len = last_setting mask_length block;
  shut = last_setting shut_down block;
  bandwidth = last_setting bandwidth block;
  cost = last_setting ospf_cost block;
  area = last_setting ospf_area block;
  point = last_setting point_to_point block;
  list_in = last_setting inbound block;
  list_out = last_setting outbound block;
}

-- the interface that a block is, if it is one
abbrev pub face_by : Command → ℕ → List FileCommand → List FaceText
face_by (Interface name) head block = face_text name head block ∷ []
face_by _ head block = []

abbrev pub face_of : List FileCommand → List FaceText
face_of [] = []
face_of (head ∷ rest) = face_by head.command head.line (head ∷ rest)

-- the number that an entry has of its own
abbrev pub entry_number : Command → Option ℕ
entry_number (Entry number entry) = number
entry_number (PrefixLine name number entry) = number
entry_number _ = None

-- whether the command is an entry of a list
abbrev pub is_entry : Command → Bool
is_entry (Entry number entry) = true
is_entry (ListLine name entry) = true
is_entry (PrefixLine name number entry) = true
is_entry _ = false

-- the entries among the commands, in file order
abbrev pub entries : List FileCommand → List (Given Command)
entries commands = filter_map (λ c. if is_entry c.command then Some (given c) else None) commands

-- whether the first entry has a number
abbrev pub is_numbered : List (Given Command) → Bool
is_numbered [] = false
is_numbered (first ∷ rest) = is_some (entry_number first.value)

-- the kind of the list of an access-list number: 1 to 99 and 1300 to 1999 are standard ones
abbrev pub is_standard : ℕ → Bool
is_standard n = (nat_le 1 n && nat_le n 99) || (nat_le 1300 n && nat_le n 1999)

abbrev pub kind_of_number : List ℕ → ListKind
kind_of_number name =
    if option_map_or is_standard (number_of name) false then Standard else Extended

-- the list of this name, whose commands these are
abbrev pub list_text : List ℕ → ListKind → ListForm → List FileCommand → ListText
list_text name kind form commands = record {
  name = name;
  kind = kind;
  form = form;
  numbered = is_numbered (entries commands);
  entries = entries commands;
}

-- the list that a block or the lines of one name are, if they are one
abbrev pub list_by : Command → List FileCommand → List ListText
list_by (ListBlock extended name) commands =
    list_text name (if extended then Extended else Standard) forms.Block commands ∷ []
list_by (ListLine name entry) commands =
    list_text name (kind_of_number name) forms.Lines commands ∷ []
list_by (PrefixLine name number entry) commands =
    list_text name Prefix forms.PrefixLines commands ∷ []
list_by _ commands = []

abbrev pub list_of : List FileCommand → List ListText
list_of [] = []
list_of (first ∷ rest) = list_by first.command (first ∷ rest)

-- the process of this number, whose head and further commands these are
abbrev pub process_text : ProcessKind → ℕ → FileCommand → List FileCommand → ProcessText
process_text kind number head rest = record {
  kind = kind;
  number = number;
  head = head.line;
  last = last_line (head ∷ rest);
  lines = map given rest;
}

-- the process that a block is, if it is one
abbrev pub process_by : Command → FileCommand → List FileCommand → List ProcessText
process_by (RouterOspf number) head rest = process_text Ospf number head rest ∷ []
process_by (RouterBgp number) head rest = process_text Bgp number head rest ∷ []
process_by _ head rest = []

abbrev pub process_of : List FileCommand → List ProcessText
process_of [] = []
process_of (head ∷ rest) = process_by head.command head rest

-- the name of the router, with its line
abbrev pub router_name : List FileCommand → Option Setting
router_name commands =
    option_map (λ g. record { name = g.value; line = g.line }) (last_setting hostname commands)

-- what the commands of a file set
abbrev pub config_of : List FileCommand → Config
config_of commands = record {
  hostname = router_name commands;
  faces = flat_map face_of (groups commands);
  lists = flat_map list_of (groups commands);
  process = flat_map process_of (groups commands);
}
