-- What one command more does to the settings of its group, and that nothing occurs twice and all
-- numbers rise.
use Rattle.std.specs.Prelude.{◌≡◌, ℕ, ◌+◌, ◌*◌, ◌<◌, ◌≤◌, true, List, [], ◌∷◌, ◌++◌, map, slice_get}
use Rattle.std.specs.Prelude.{Option, Some, None, Contains, is_some}
use Rattle.std.specs.List.{AllByRecursion}
use Rattle.ios_words.specs.declared.commands.Command.{Command}
use Rattle.ios_words.specs.declared.commands.Command.TheVariants as commands
use Rattle.ios_words.specs.declared.commands.PacketText.{PacketText}
use Rattle.ios_words.specs.declared.commands.RouteText.{RouteText}
use Rattle.ios_config.specs.declared.commands.FileCommand.{FileCommand}
use Rattle.ios_config.specs.declared.settings.FaceText.{FaceText}
use Rattle.ios_config.specs.declared.settings.Given.{Given}
use Rattle.ios_config.specs.declared.settings.ListText.{ListText}
use Rattle.ios_config.specs.declared.settings.ProcessText.{ProcessText}
use Rattle.ios_config.specs.Inserted.{with_command}
use Rattle.ios_config.specs.Joined.{between}
use Rattle.ios_config.specs.Rising.{FallsAt}
use Rattle.ios_config.specs.Texts.{given, entry_number, is_entry, entries, face_of, list_of}
use Rattle.ios_config.specs.Texts.{process_of}
use Rattle.ios_config.specs.Twice.{stand_of, excluded, Clash, StandOnce}
use Rattle.ios_lines.specs.declared.line.Lines.{Lines}
use Rattle.ios_config.specs.Commands.{AreCommandsOf}

-- the commands before a new line and after it
pub record Split (place : ℕ) (commands : List FileCommand) : Type 0 where
  pub front : List FileCommand
  pub back : List FileCommand
  pub parts : commands ≡ front ++ back
  pub low : AllByRecursion (λ (c : FileCommand). c.line ≤ place) front
  pub high : AllByRecursion (λ (c : FileCommand). place < c.line) back
  pub with_one : (c : FileCommand) → with_command place c commands ≡ between place front c back

-- the commands of a text are those before a place and those after it
abbrev pub CommandsAreSplit : Type 0
CommandsAreSplit =
    (text : List ℕ) (lines : Lines) (commands : List FileCommand) (place : ℕ) →
    AreCommandsOf text lines commands → Split place commands

-- a process with one line more
abbrev pub process_with : FileCommand → ProcessText → ProcessText
process_with c p = record {
  kind = p.kind;
  number = p.number;
  head = p.head;
  last = c.line;
  lines = p.lines ++ given c ∷ [];
}

-- a command at the end of a process is its last line
abbrev pub ALastLineIsTheProcesss : Type 0
ALastLineIsTheProcesss =
    (head : FileCommand) (rest : List FileCommand) (c : FileCommand) →
    process_of (head ∷ (rest ++ c ∷ [])) ≡ map (process_with c) (process_of (head ∷ rest))

-- an interface that binds a list inbound, as this line says
abbrev pub face_bound : List ℕ → ℕ → FaceText → FaceText
face_bound name line f = record {
  name = f.name;
  head = f.head;
  last = line;
  addr = f.addr;
  mask_len = f.mask_len;
  shut = f.shut;
  bandwidth = f.bandwidth;
  cost = f.cost;
  area = f.area;
  point = f.point;
  list_in = Some (record { value = name; line = line });
  list_out = f.list_out;
}

-- a binding at the end of an interface binds the list, and changes no other setting
abbrev pub ALastBindingIsSet : Type 0
ALastBindingIsSet =
    (head : FileCommand) (rest : List FileCommand) (line block : ℕ) (name : List ℕ) →
    face_of (head ∷
    (rest ++ record { line = line; block = block; command = commands.Group name true } ∷ []))
    ≡ map (face_bound name line) (face_of (head ∷ rest))

-- a list with one entry more at its front
abbrev pub list_with : FileCommand → ListText → ListText
list_with c l = record {
  name = l.name;
  kind = l.kind;
  form = l.form;
  numbered = is_some (entry_number c.command);
  entries = given c ∷ l.entries;
}

-- an entry before the first one of a block is the list's first
abbrev pub AFirstEntryIsTheLists : Type 0
AFirstEntryIsTheLists =
    (head : FileCommand) (front : List FileCommand) (c : FileCommand) (back : List FileCommand) →
    entries (head ∷ front) ≡ [] → is_entry c.command ≡ true →
    list_of (head ∷ (front ++ c ∷ back)) ≡ map (list_with c) (list_of (head ∷ (front ++ back)))

-- and so is one before the first of a list that is written as lines
abbrev pub AFirstListLineIsTheLists : Type 0
AFirstListLineIsTheLists =
    (line block number other : ℕ) (name : List ℕ) (one two : PacketText) (rest : List FileCommand) →
    list_of (record { line = line; block = block; command = commands.ListLine name one } ∷
    record { line = number; block = other; command = commands.ListLine name two } ∷ rest)
    ≡ map (list_with (record { line = line; block = block; command = commands.ListLine name one }))
    (list_of (record { line = number; block = other; command = commands.ListLine name two } ∷ rest))

abbrev pub AFirstPrefixLineIsTheLists : Type 0
AFirstPrefixLineIsTheLists =
    (line block number other : ℕ) (name : List ℕ) (m n : Option ℕ) (one two : RouteText)
    (rest : List FileCommand) →
    list_of (record { line = line; block = block; command = commands.PrefixLine name m one } ∷
    record { line = number; block = other; command = commands.PrefixLine name n two } ∷ rest) ≡ map
    (list_with (record { line = line; block = block; command = commands.PrefixLine name m one }))
    (list_of
    (record { line = number; block = other; command = commands.PrefixLine name n two } ∷ rest))

-- nothing occurs twice where the new command clashes with none
abbrev pub StillStandsOnce : Type 0
StillStandsOnce =
    (place : ℕ) (front : List FileCommand) (c : FileCommand) (back : List FileCommand) →
    StandOnce (front ++ back) →
    ((d : FileCommand) → Contains front d → ¬ Clash d.command c.command) →
    ((d : FileCommand) → Contains back d → ¬ Clash c.command d.command) →
    StandOnce (between place front c back)

-- a command that begins nothing that may occur only once, and excludes nothing, clashes with none
abbrev pub SilentCommandsClashWithNone : Type 0
SilentCommandsClashWithNone =
    (c d : Command) → stand_of c ≡ None → excluded c ≡ [] → (¬ Clash c d) × (¬ Clash d c)

-- entries that are numbered by their places rise
abbrev pub PlacesRise : Type 0
PlacesRise =
    (step : ℕ) (es : List (Given Command)) → 0 < step →
    ((place : ℕ) (g : Given Command) → slice_get es place ≡ Some g →
    entry_number g.value ≡ Some (step * (place + 1))) →
    (line : ℕ) → ¬ FallsAt es line

-- and so do entries without numbers
abbrev pub NoNumbersRise : Type 0
NoNumbersRise =
    (es : List (Given Command)) →
    ((place : ℕ) (g : Given Command) → slice_get es place ≡ Some g → entry_number g.value ≡ None) →
    (line : ℕ) → ¬ FallsAt es line
