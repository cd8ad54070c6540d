-- The command line as `clap` has it.
use Rattle.std.specs.Prelude.{Bool, true, false, Some, codes, fold}
use Rattle.clap.specs.Walk.{Rule, Text}
use Rattle.clap.specs.Simple.{App, new_app, new_rule, with_rule, with_subcommand}
use Rattle.command_words.specs.Commands.{Form, forms}

-- a word that is required in its place
abbrev pub positional : Text → Rule
positional id = record (new_rule id) { required = true }

-- an option that takes one value
abbrev pub option : Bool → Text → Rule
option is_needed name = record (new_rule name) { long = Some name; required = is_needed }

abbrev pub with_place : App → Text → App
with_place app place = with_rule app (positional place)

abbrev pub with_option : Bool → App → Text → App
with_option are_needed app name = with_rule app (option are_needed name)

-- the command of a row of the table
abbrev pub command_app : Form → App
command_app form = fold (with_option false) (fold (with_option true)
    (fold with_place (new_app form.name) form.places) form.needed) form.optional

abbrev pub with_form : App → Form → App
with_form app form = with_subcommand app (command_app form).top

-- a command is required, and the first word is its name
abbrev pub bare : App
bare = record (new_app (codes "arcv")) {
  top = record (new_app (codes "arcv")).top {
    no_binary_name = true;
    disable_help_flag = true;
    disable_help_subcommand = true;
    subcommand_required = true;
  };
}

-- the commands of all rows
abbrev pub app : App
app = fold with_form bare forms
