-- The settings of a file without the numbers of its lines and without those of the entries of its
-- lists.
use Rattle.std.specs.Prelude.{false, None, map}
use Rattle.ios_words.specs.declared.commands.Command.{Command}
use Rattle.ios_words.specs.declared.commands.Command.TheVariants as commands
use Rattle.ios_config.specs.declared.settings.Given.{Given}
use Rattle.ios_config.specs.declared.settings.ListText.{ListText}

-- the command without the number that an entry has of its own
abbrev pub without_number : Command → Command
without_number (commands.Entry number entry) = commands.Entry None entry
without_number (commands.PrefixLine name number entry) = commands.PrefixLine name None entry
without_number other = other

-- the value as a line gives it, without the line's number
abbrev pub said : {V : Type 0} → V → Given V
said value = record { value = value; line = 0 }

-- an entry of a list without its numbers
abbrev pub plain_entry : Given Command → Given Command
plain_entry g = said (without_number g.value)

-- a list without its numbers
abbrev pub plain_list : ListText → ListText
plain_list l = record {
  name = l.name;
  kind = l.kind;
  form = l.form;
  numbered = false;
  entries = map plain_entry l.entries;
}
